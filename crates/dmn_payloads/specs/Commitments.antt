-- A quorum's commitment, field by field, and the payload that has it (DIP-0006).
use Rattle.std.specs.Prelude.{◌≡◌, ℕ, ◌+◌, ◌-◌, ◌/◌, ◌%◌, ◌^◌, ◌==◌, ◌&&◌, nat_lt, Bool, true, List, length, if◌then◌else◌, slice_index, IsTrue, refl}
use Rattle.std.specs.Int.{w16, w32}
use Rattle.std.proofs.Common.{sym, ap, arith}
use Rattle.std.proofs.lemmas.Bool.{eqb-true}
use Rattle.dmn_bytes.specs.declared.fault.Departure.TheVariants.{Form}
use Rattle.dmn_bytes.specs.Format.{Format, via, ◌⊗◌, ◌▹◌, byte, number, fixed, hash, compact, kept}
use Rattle.dmn_bytes.specs.Points.{is_zero}
use Rattle.dmn_bytes.specs.Law.{IsSound}
use Rattle.dmn_bytes.specs.Sound.{via_sound, both_sound, then_sound, kept_sound, byte_sound, number16_sound, number32_sound, fixed_sound, hash_sound, compact_sound}
use Rattle.dmn_payloads.specs.Payloads.{version_one, version_one_sound}
use Rattle.dmn_payloads.specs.declared.commitment.Bits.{Bits}
use Rattle.dmn_payloads.specs.declared.commitment.Commitment.{Commitment}

-- how many bytes this many bits fill
abbrev pub bit_bytes : ℕ → ℕ
bit_bytes count = (count + 7) / 8

-- no bit past the count is set
abbrev pub is_padded : ℕ → List ℕ → Bool
is_padded count bytes = if (count % 8) == 0 then true else nat_lt (slice_index bytes (bit_bytes count - 1)) (2 ^ (count % 8))

-- A set of bits. One that is set past the count departs at the last byte.
unfoldable pub bits : Format Bits
bits = via
    (λ (count, bytes). record { count = count; bytes = bytes })
    (λ v. (v.count, v.bytes))
    (compact ▹ λ count. kept (λ i. Form (i + (bit_bytes count - 1))) (is_padded count) (fixed (bit_bytes count)))

unfoldable pub commitment : Format Commitment
commitment = via
    (λ (version, (kind, (quorum, (signers, (valid, (key, (vvec, (quorum_sig, members_sig)))))))). record { version = version; kind = kind; quorum = quorum; signers = signers; valid = valid; key = key; vvec = vvec; quorum_sig = quorum_sig; members_sig = members_sig })
    (λ v. (v.version, (v.kind, (v.quorum, (v.signers, (v.valid, (v.key, (v.vvec, (v.quorum_sig, v.members_sig)))))))))
    (number w16 ⊗ byte ⊗ hash ⊗ bits ⊗ bits ⊗ fixed 48 ⊗ hash ⊗ fixed 96 ⊗ fixed 96)

-- type 6: the height of the block that has the commitment, and the commitment
unfoldable pub mined : Format (ℕ × Commitment)
mined = via (λ (version, (height, value)). (height, value)) (λ v. (1, (v.0, v.1))) (version_one ⊗ number w32 ⊗ commitment)

-- a set of bits as it is written: the bytes that its count asks for, with no bit past it
abbrev pub HasItsBytes : Bits → Type 0
HasItsBytes v = (length v.bytes ≡ bit_bytes v.count) × IsTrue (is_padded v.count v.bytes)

abbrev pub KeepsSets : Commitment → Type 0
KeepsSets v = HasItsBytes v.signers × HasItsBytes v.valid

-- the commitment of a quorum that failed
abbrev pub is_null : Commitment → Bool
is_null v = is_zero v.signers.bytes && is_zero v.valid.bytes && is_zero v.key && is_zero v.vvec.0 && is_zero v.quorum_sig && is_zero v.members_sig

-- ---- each reads as its texts

pub bits_sound : IsSound bits
unfolding bits
bits_sound = via_sound _ _ _ (λ v. refl) (λ a fits. refl) (then_sound _ _ compact_sound (λ count. kept_sound (λ i. Form (i + (bit_bytes count - 1))) (is_padded count) (fixed (bit_bytes count)) (λ i v fits. omega (arith, fits)) (fixed_sound (bit_bytes count))))

pub commitment_sound : IsSound commitment
unfolding commitment
commitment_sound = via_sound _ _ _ (λ v. refl) (λ a fits. refl)
    (both_sound _ _ number16_sound (both_sound _ _ byte_sound (both_sound _ _ hash_sound (both_sound _ _ bits_sound (both_sound _ _ bits_sound (both_sound _ _ (fixed_sound 48) (both_sound _ _ hash_sound (both_sound _ _ (fixed_sound 96) (fixed_sound 96)))))))))

pub mined_sound : IsSound mined
unfolding mined version_one
mined_sound = via_sound _ _ _ (λ v. refl) (λ a fits. ap (λ (n : ℕ). (n, a.1)) (sym (eqb-true a.0 1 fits.0.1))) (both_sound _ _ version_one_sound (both_sound _ _ number32_sound commitment_sound))
