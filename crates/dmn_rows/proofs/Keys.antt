-- Rows stay in the order of their hashes.
use Rattle.std.proofs.Common.{Bool, List, filter}
use Rattle.dmn_bytes.specs.Points.{hash_cmp}
use Rattle.dmn_rows.specs.declared.row.MnRow.{MnRow}
use Rattle.dmn_rows.specs.Rows.{has_hash, put_row}
pub use Rattle.dmn_rows.specs.Keys.{same_hash-is, same_hash-from, same_point-is, same_point-from, row_key, output_key}
use Rattle.dmn_rows.specs.Listing.{IsAscending}
use Rattle.dmn_rows.proofs.Sorted.{Ascends-put_sorted, Ascends-filter}

pub IsAscending-put_row : (row : MnRow) (rows : List MnRow) → IsAscending rows → IsAscending (put_row row rows)
IsAscending-put_row = Ascends-put_sorted hash_cmp (λ r. r.hash) has_hash row_key

pub IsAscending-filter : (test : MnRow → Bool) (rows : List MnRow) → IsAscending rows → IsAscending (filter test rows)
IsAscending-filter = Ascends-filter hash_cmp (λ r. r.hash) has_hash row_key
