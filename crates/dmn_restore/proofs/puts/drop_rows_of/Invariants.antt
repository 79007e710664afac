use Rattle.std.proofs.Common.{◌≡◌, drop, map}
use Rattle.dmn_indexes.specs.Version.{Keeps}
use Rattle.dmn_restore.specs.Lists.{hash_of, rows_without}
use Rattle.dmn_restore.proofs.puts.drop_rows_of.Given as goal

abbrev pub invariant-loop-place : goal.invariant-loop-place
invariant-loop-place l = record {
  rows : rows_without (map hash_of (drop l.place l.rows)) l.list.rows ≡ rows_without (map hash_of l.rows) l.initial.list.rows;
  outputs : l.list.outputs ≡ l.initial.list.outputs;
  keeps : Keeps l.initial.list.indexes l.list.indexes;
}
