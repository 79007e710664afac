use Rattle.std.proofs.Common.{◌∙◌}
use Rattle.dmn_indexes.proofs.Whole.{keeps_then}
use Rattle.dmn_rows.specs.Rows.{has_hash}
use Rattle.dmn_restore.proofs.Steps.{drop_step, no_hash}
use Rattle.dmn_restore.proofs.puts.drop_rows.Goals as goal

pub loop-place-preserved : goal.loop-place-preserved
loop-place-preserved c = record {
  rows = drop_step has_hash c.args.hashes.now c.loop-place.place no_hash _ _ _ c.loop-place-test.true c.in_ok-drop_row.ensures.rows c.loop-place.invariant.rows;
  outputs = c.in_ok-drop_row.ensures.outputs ∙ c.loop-place.invariant.outputs;
  keeps = keeps_then c.loop-place.invariant.keeps c.drop_row.ensures.leads.keeps;
}
