-- A verdict on a signature, field by field.
use Rattle.std.specs.Prelude.{refl}
use Rattle.std.specs.Int.{w32}
use Rattle.dmn_bytes.specs.Format.{Format, via, ◌⊗◌, byte, hash, number}
use Rattle.dmn_bytes.specs.Law.{IsSound}
use Rattle.dmn_bytes.specs.Sound.{via_sound, both_sound, byte_sound, hash_sound, number32_sound}
use Rattle.dmn_rows.specs.declared.verdict.Verdict.{Verdict}

unfoldable pub verdict : Format Verdict
verdict = via
    (λ (tx, (kind, (key, valid))). record { tx = tx; kind = kind; key = key; valid = valid })
    (λ v. (v.tx, (v.kind, (v.key, v.valid))))
    (number w32 ⊗ byte ⊗ hash ⊗ byte)

pub verdict_sound : IsSound verdict
unfolding verdict
verdict_sound = via_sound _ _ _ (λ v. refl) (λ a fits. refl) (both_sound _ _ number32_sound (both_sound _ _ byte_sound (both_sound _ _ hash_sound byte_sound)))
