-- What changes between the simplified lists of rows, said of the rows.
use Rattle.std.specs.Prelude.{Bool, false, not, List, find, filter, map, is_some}
use Rattle.std.specs.Option.{option_map_or}
use Rattle.dmn_bytes.specs.declared.hash.Hash256.{Hash256}
use Rattle.dmn_rows.specs.declared.row.MnRow.{MnRow}
use Rattle.dmn_rows.specs.Rows.{has_hash}
use Rattle.dmn_sml.specs.Entry.{entry_of}
use Rattle.dmn_diff.specs.Change.{same_entry}

abbrev pub row_hash : MnRow → Hash256
row_hash r = r.hash

-- the base has no row of this one's hash, or one whose entry differs
abbrev pub is_row_told : List MnRow → MnRow → Bool
is_row_told base r = not (option_map_or (λ b. same_entry (entry_of r) (entry_of b)) (find (has_hash r.hash) base) false)

-- the hashes of the base's rows that the target has no row of
abbrev pub rows_gone : List MnRow → List MnRow → List Hash256
rows_gone base target = map row_hash (filter (λ b. not (is_some (find (has_hash b.hash) target))) base)
