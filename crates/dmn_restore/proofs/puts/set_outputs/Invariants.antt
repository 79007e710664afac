use Rattle.std.proofs.Common.{◌≡◌, drop}
use Rattle.dmn_indexes.specs.Version.{Keeps}
use Rattle.dmn_rows.specs.Listing.{OutputsAscend}
use Rattle.dmn_restore.specs.Lists.{outputs_with}
use Rattle.dmn_restore.proofs.puts.set_outputs.Given as goal

abbrev pub invariant-loop-place : goal.invariant-loop-place
invariant-loop-place l = record {
  rows : l.list.rows ≡ l.initial.list.rows;
  outputs : outputs_with (drop l.place l.outputs) l.list.outputs ≡ outputs_with l.outputs l.initial.list.outputs;
  ascending : OutputsAscend l.list.outputs;
  keeps : Keeps l.initial.list.indexes l.list.indexes;
}
