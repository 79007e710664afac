use Rattle.std.proofs.Common.{◌∙◌}
use Rattle.dmn_indexes.proofs.Whole.{keeps_then}
use Rattle.dmn_rows.specs.Rows.{has_point}
use Rattle.dmn_restore.proofs.Steps.{drop_step, no_point}
use Rattle.dmn_restore.proofs.puts.drop_outputs.Goals as goal

pub loop-place-preserved : goal.loop-place-preserved
loop-place-preserved c = record {
  rows = c.in_ok-drop_output.ensures.rows ∙ c.loop-place.invariant.rows;
  outputs = drop_step has_point c.args.points.now c.loop-place.place no_point _ _ _ c.loop-place-test.true c.in_ok-drop_output.ensures.outputs c.loop-place.invariant.outputs;
  keeps = keeps_then c.loop-place.invariant.keeps c.drop_output.ensures.leads.keeps;
}
