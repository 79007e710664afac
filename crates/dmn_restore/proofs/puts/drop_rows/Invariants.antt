use Rattle.std.proofs.Common.{◌≡◌, drop}
use Rattle.dmn_indexes.specs.Version.{Keeps}
use Rattle.dmn_restore.specs.Lists.{rows_without}
use Rattle.dmn_restore.proofs.puts.drop_rows.Given as goal

abbrev pub invariant-loop-place : goal.invariant-loop-place
invariant-loop-place l = record {
  rows : rows_without (drop l.place l.hashes) l.list.rows ≡ rows_without l.hashes l.initial.list.rows;
  outputs : l.list.outputs ≡ l.initial.list.outputs;
  keeps : Keeps l.initial.list.indexes l.list.indexes;
}
