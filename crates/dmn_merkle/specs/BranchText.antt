-- A branch as fields (DIP-0004): the count of ids, the hashes, and the flags.
use Rattle.std.specs.Prelude.{refl}
use Rattle.std.specs.Int.{w32}
use Rattle.dmn_bytes.specs.Format.{Format, via, ◌⊗◌, number, hash, counted, blob}
use Rattle.dmn_bytes.specs.Law.{IsSound}
use Rattle.dmn_bytes.specs.Sound.{via_sound, both_sound, number32_sound, hash_sound, counted_sound, blob_sound}
use Rattle.dmn_merkle.specs.declared.branch.Branching.{Branching}

unfoldable pub branching : Format Branching
branching = via
    (λ (total, (hashes, flags)). record { total = total; hashes = hashes; flags = flags })
    (λ v. (v.total, (v.hashes, v.flags)))
    (number w32 ⊗ counted hash ⊗ blob)

pub branching_sound : IsSound branching
unfolding branching
branching_sound = via_sound _ _ _ (λ v. refl) (λ a fits. refl) (both_sound _ _ number32_sound (both_sound _ _ (counted_sound hash hash_sound) blob_sound))
