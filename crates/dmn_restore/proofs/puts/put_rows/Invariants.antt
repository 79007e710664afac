use Rattle.std.proofs.Common.{◌≡◌, drop}
use Rattle.dmn_indexes.specs.Version.{Keeps}
use Rattle.dmn_rows.specs.Distinct.{HasDistinctKeys}
use Rattle.dmn_rows.specs.Listing.{IsAscending}
use Rattle.dmn_restore.specs.Lists.{rows_with}
use Rattle.dmn_restore.specs.Proper.{HasPenaltiesTo}
use Rattle.dmn_restore.specs.Puts.{MayPutAll}
use Rattle.dmn_restore.proofs.puts.put_rows.Given as goal

abbrev pub invariant-loop-place : goal.invariant-loop-place
invariant-loop-place l = record {
  rows : rows_with (drop l.place l.rows) l.list.rows ≡ rows_with l.rows l.initial.list.rows;
  outputs : l.list.outputs ≡ l.initial.list.outputs;
  keeps : Keeps l.initial.list.indexes l.list.indexes;
  ascending : IsAscending l.list.rows;
  keys : HasDistinctKeys l.list.rows;
  penalties : HasPenaltiesTo l.height l.list.rows;
  may : MayPutAll l.height l.rows l.initial.list.rows → MayPutAll l.height (drop l.place l.rows) l.list.rows;
}
