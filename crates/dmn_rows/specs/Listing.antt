-- A list of rows and a list of outputs, as they are kept.
use Rattle.std.specs.Prelude.{List}
use Rattle.dmn_bytes.specs.Points.{hash_cmp, point_cmp}
use Rattle.dmn_rows.specs.declared.row.MnRow.{MnRow}
use Rattle.dmn_rows.specs.Rows.{Outputs}
use Rattle.dmn_rows.specs.Start.{point_of}
use Rattle.dmn_rows.specs.Sorted.{Ascends}

pub record Listing : Type 0 where
  pub rows : List MnRow
  pub outputs : Outputs

-- each hash is below all behind it
abbrev pub IsAscending : List MnRow → Type 0
IsAscending = Ascends hash_cmp (λ r. r.hash)

-- each outpoint is below all behind it
abbrev pub OutputsAscend : Outputs → Type 0
OutputsAscend = Ascends point_cmp point_of
