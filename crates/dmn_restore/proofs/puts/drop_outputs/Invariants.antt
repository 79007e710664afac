use Rattle.std.proofs.Common.{◌≡◌, drop}
use Rattle.dmn_indexes.specs.Version.{Keeps}
use Rattle.dmn_restore.specs.Lists.{outputs_without}
use Rattle.dmn_restore.proofs.puts.drop_outputs.Given as goal

abbrev pub invariant-loop-place : goal.invariant-loop-place
invariant-loop-place l = record {
  rows : l.list.rows ≡ l.initial.list.rows;
  outputs : outputs_without (drop l.place l.points) l.list.outputs ≡ outputs_without l.points l.initial.list.outputs;
  keeps : Keeps l.initial.list.indexes l.list.indexes;
}
