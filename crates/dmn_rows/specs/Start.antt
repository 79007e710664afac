-- The start record: what a registry starts from, field by field.
use Rattle.std.specs.Prelude.{◌≡◌, ℕ, ◌==◌, ◌&&◌, not, List, nat_le, refl}
use Rattle.std.specs.Int.{w16, w32}
use Rattle.std.proofs.Common.{ap, sym}
use Rattle.std.proofs.lemmas.Bool.{eqb-true}
use Rattle.dmn_bytes.specs.declared.fault.Departure.TheVariants.{Form}
use Rattle.dmn_bytes.specs.declared.hash.Hash256.{Hash256}
use Rattle.dmn_bytes.specs.declared.points.OutPoint.{OutPoint}
use Rattle.dmn_bytes.specs.Format.{Format, via, ◌⊗◌, kept, only, byte, hash, number, keyed, ascending, sized}
use Rattle.dmn_bytes.specs.Points.{is_zero, out_point, out_point_sound, pay, pay_sound, point_cmp}
use Rattle.dmn_bytes.specs.Law.{IsSound}
use Rattle.dmn_bytes.specs.Sound.{via_sound, both_sound, kept_here, only_sound, byte_sound, hash_sound, number16_sound, number32_sound, keyed_sound, ascending_sound, sized_sound}
use Rattle.dmn_rows.specs.declared.limits.TheConstants.{GREATEST_HEIGHT, MOST_OUTPUTS}
use Rattle.dmn_rows.specs.declared.start.StartOutput.{StartOutput}
use Rattle.dmn_rows.specs.declared.start.StartRecord.{StartRecord}

-- the greatest height of a block
abbrev pub height_max : ℕ
height_max = GREATEST_HEIGHT

-- as many outputs as there may be
abbrev pub most_outputs : ℕ
most_outputs = MOST_OUTPUTS

unfoldable pub version_field : Format ℕ
version_field = kept (λ i. Form i) (λ n. n == 1) (number w16)

unfoldable pub profile_field : Format ℕ
profile_field = kept (λ i. Form i) (λ n. nat_le 1 n && nat_le n 2) byte

unfoldable pub first_field : Format ℕ
first_field = kept (λ i. Form i) (λ n. nat_le 1 n && nat_le n height_max) (number w32)

unfoldable pub hash_field : Format Hash256
hash_field = kept (λ i. Form i) (λ h. not (is_zero h.0)) hash

unfoldable pub count_field : Format ℕ
count_field = kept (λ i. Form i) (λ n. nat_le n most_outputs) (number w32)

abbrev pub point_of : StartOutput → OutPoint
point_of output = output.point

-- what stands behind an outpoint
unfoldable pub behind_point : OutPoint → Format StartOutput
behind_point point = via (λ (p, pays). record { point = p; pay = pays }) (λ v. (v.point, v.pay)) (only point ⊗ pay)

unfoldable pub start_output : Format StartOutput
start_output = keyed point_of out_point behind_point

-- a count, and that many outputs in strictly ascending order of their outpoints
unfoldable pub outputs_field : Format (List StartOutput)
outputs_field = sized count_field (ascending point_cmp point_of out_point behind_point)

unfoldable pub start_record : Format StartRecord
start_record = via (λ (version, (profile, (first, (h, outputs)))). record { profile = profile; first = first; hash = h; outputs = outputs })
    (λ v. (1, (v.profile, (v.first, (v.hash, v.outputs)))))
    (version_field ⊗ profile_field ⊗ first_field ⊗ hash_field ⊗ outputs_field)

-- ---- soundness

version_sound : IsSound version_field
unfolding version_field
version_sound = kept_here (λ n. n == 1) (number w16) number16_sound

profile_sound : IsSound profile_field
unfolding profile_field
profile_sound = kept_here (λ n. nat_le 1 n && nat_le n 2) byte byte_sound

first_sound : IsSound first_field
unfolding first_field
first_sound = kept_here (λ n. nat_le 1 n && nat_le n height_max) (number w32) number32_sound

hash_field_sound : IsSound hash_field
unfolding hash_field
hash_field_sound = kept_here (λ h. not (is_zero h.0)) hash hash_sound

count_sound : IsSound count_field
unfolding count_field
count_sound = kept_here (λ n. nat_le n most_outputs) (number w32) number32_sound

behind_point_sound : (point : OutPoint) → IsSound (behind_point point)
unfolding behind_point
behind_point_sound point = via_sound _ _ _ (λ v. refl) (λ a fits. refl) (both_sound (only point) pay (only_sound point) pay_sound)

-- a value behind an outpoint says it
says_point : (point : OutPoint) (v : StartOutput) → (behind_point point).Fits v → point_of v ≡ point
unfolding behind_point
says_point point v fits = fits.0

pub start_output_sound : IsSound start_output
unfolding start_output
start_output_sound = keyed_sound point_of out_point behind_point says_point out_point_sound behind_point_sound

outputs_sound : IsSound outputs_field
unfolding outputs_field
outputs_sound = sized_sound count_field (ascending point_cmp point_of out_point behind_point) (λ n vs fits. fits.0) count_sound
    (λ n. ascending_sound point_cmp point_of out_point behind_point n says_point out_point_sound behind_point_sound)

pub start_record_sound : IsSound start_record
unfolding start_record version_field
start_record_sound = via_sound _ _ _ (λ v. refl) (λ a fits. ap (λ (n : ℕ). (n, (a.1.0, (a.1.1.0, (a.1.1.1.0, a.1.1.1.1))))) (sym (eqb-true a.0 1 fits.0.1))) (both_sound _ _ version_sound (both_sound _ _ profile_sound (both_sound _ _ first_sound (both_sound _ _ hash_field_sound outputs_sound))))
