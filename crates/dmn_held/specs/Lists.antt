-- The lists of a snapshot: each a count of four bytes, and that many. Outputs stand as in a start record.
use Rattle.std.specs.Prelude.{◌≡◌, ℕ, List, nat_le, Option, None, refl}
use Rattle.std.specs.Int.{w32}
use Rattle.dmn_bytes.specs.declared.fault.Departure.TheVariants.{Form}
use Rattle.dmn_bytes.specs.declared.hash.Hash256.{Hash256}
use Rattle.dmn_bytes.specs.declared.points.OutPoint.{OutPoint}
use Rattle.dmn_bytes.specs.Format.{Format, via, ◌⊗◌, kept, only, number, hash, many, sized, follows, last_key, series, ascending}
use Rattle.dmn_bytes.specs.Law.{IsSound}
use Rattle.dmn_bytes.specs.Points.{hash_cmp, out_point, out_point_sound, pay_sound, point_cmp}
use Rattle.dmn_bytes.specs.Sound.{via_sound, both_sound, kept_here, only_sound, number32_sound, hash_sound, many_sound, sized_sound, series_sound, ascending_sound}
use Rattle.dmn_payloads.specs.Commitments.{commitment, commitment_sound}
use Rattle.dmn_payloads.specs.declared.commitment.Commitment.{Commitment}
use Rattle.dmn_payloads.specs.declared.mined.MinedAt.{MinedAt}
pub use Rattle.dmn_rows.specs.Start.{outputs_field}
use Rattle.dmn_rows.specs.Start.{behind_point, count_field, most_outputs, point_of}
use Rattle.dmn_rows.specs.declared.limits.TheConstants.{MOST_MASTERNODES, MOST_OUTPUTS}
use Rattle.dmn_rows.specs.declared.row.MnRow.{MnRow}
use Rattle.dmn_rows.specs.declared.start.StartOutput.{StartOutput}
use Rattle.dmn_held.specs.Row.{stored_row, stored_row_sound}

-- a count of at most so many
unfoldable pub count_to : ℕ → Format ℕ
count_to most = kept (λ i. Form i) (λ n. nat_le n most) (number w32)

abbrev pub hash_of : MnRow → Hash256
hash_of r = r.hash

-- a row whose hash may follow the last one; another departs at its first byte, once the row was read
unfoldable pub next_row : Option Hash256 → Format MnRow
next_row last = kept (λ i. Form i) (λ r. follows hash_cmp last (hash_of r)) stored_row

-- rows in strictly ascending order of their hashes
unfoldable pub rows_field : Format (List MnRow)
rows_field = sized (count_to MOST_MASTERNODES) (series next_row (last_key hash_of) None)

-- hashes of rows, strictly ascending
unfoldable pub hashes_field : Format (List Hash256)
hashes_field = sized (count_to MOST_MASTERNODES) (ascending hash_cmp (λ h. h) hash (λ h. only h))

-- outpoints, strictly ascending
unfoldable pub points_field : Format (List OutPoint)
points_field = sized (count_to MOST_OUTPUTS) (ascending point_cmp (λ p. p) out_point (λ p. only p))

unfoldable pub commitments_field : Format (List Commitment)
commitments_field = sized (number w32) (λ n. many n commitment)

-- a commitment behind the height of its block
unfoldable pub mined_at : Format MinedAt
mined_at = via (λ (height, commitment). record { height = height; commitment = commitment }) (λ v. (v.height, v.commitment)) (number w32 ⊗ commitment)

unfoldable pub mined_field : Format (List MinedAt)
mined_field = sized (number w32) (λ n. many n mined_at)

-- ---- each reads as its texts

pub count_sound : (most : ℕ) → IsSound (count_to most)
unfolding count_to
count_sound most = kept_here (λ n. nat_le n most) (number w32) number32_sound

pub next_row_sound : (last : Option Hash256) → IsSound (next_row last)
unfolding next_row
next_row_sound last = kept_here (λ r. follows hash_cmp last (hash_of r)) stored_row stored_row_sound

pub rows_sound : IsSound rows_field
unfolding rows_field
rows_sound = sized_sound (count_to MOST_MASTERNODES) (series next_row (last_key hash_of) None) (λ n vs fits. fits.0) (count_sound MOST_MASTERNODES)
    (λ n. series_sound next_row (last_key hash_of) None n next_row_sound)

pub hashes_sound : IsSound hashes_field
unfolding hashes_field
hashes_sound = sized_sound (count_to MOST_MASTERNODES) (ascending hash_cmp (λ h. h) hash (λ h. only h)) (λ n vs fits. fits.0) (count_sound MOST_MASTERNODES)
    (λ n. ascending_sound hash_cmp (λ h. h) hash (λ h. only h) n (λ k v fits. fits) hash_sound (λ h. only_sound h))

behind_point_sound : (point : OutPoint) → IsSound (behind_point point)
unfolding behind_point
behind_point_sound point = via_sound _ _ _ (λ v. refl) (λ a fits. refl) (both_sound _ _ (only_sound point) pay_sound)

says_point : (point : OutPoint) (v : StartOutput) → (behind_point point).Fits v → point_of v ≡ point
unfolding behind_point
says_point point v fits = fits.0

count_field_sound : IsSound count_field
unfolding count_field
count_field_sound = kept_here (λ n. nat_le n most_outputs) (number w32) number32_sound

pub outputs_sound : IsSound outputs_field
unfolding outputs_field
outputs_sound = sized_sound count_field (ascending point_cmp point_of out_point behind_point) (λ n vs fits. fits.0) count_field_sound
    (λ n. ascending_sound point_cmp point_of out_point behind_point n says_point out_point_sound behind_point_sound)

pub points_sound : IsSound points_field
unfolding points_field
points_sound = sized_sound (count_to MOST_OUTPUTS) (ascending point_cmp (λ p. p) out_point (λ p. only p)) (λ n vs fits. fits.0) (count_sound MOST_OUTPUTS)
    (λ n. ascending_sound point_cmp (λ p. p) out_point (λ p. only p) n (λ k v fits. fits) out_point_sound (λ p. only_sound p))

pub commitments_sound : IsSound commitments_field
unfolding commitments_field
commitments_sound = sized_sound (number w32) (λ n. many n commitment) (λ n vs fits. fits.0) number32_sound (λ n. many_sound commitment n commitment_sound)

pub mined_at_sound : IsSound mined_at
unfolding mined_at
mined_at_sound = via_sound _ _ _ (λ v. refl) (λ a fits. refl) (both_sound _ _ number32_sound commitment_sound)

pub mined_sound : IsSound mined_field
unfolding mined_field
mined_sound = sized_sound (number w32) (λ n. many n mined_at) (λ n vs fits. fits.0) number32_sound (λ n. many_sound mined_at n mined_at_sound)
