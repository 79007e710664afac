use Rattle.std.proofs.Common.{◌∙◌}
use Rattle.dmn_bytes.specs.Points.{point_cmp}
use Rattle.dmn_indexes.proofs.Whole.{keeps_then}
use Rattle.dmn_rows.specs.Start.{point_of}
use Rattle.dmn_restore.proofs.Steps.{no_output, put_step}
use Rattle.dmn_restore.proofs.puts.set_outputs.Goals as goal

pub loop-place-preserved : goal.loop-place-preserved
loop-place-preserved c = record {
  rows = c.in_ok-set_output.ensures.rows ∙ c.loop-place.invariant.rows;
  outputs = put_step point_cmp point_of c.args.outputs.now c.loop-place.place no_output _ _ _ c.loop-place-test.true c.in_ok-set_output.ensures.outputs c.loop-place.invariant.outputs;
  ascending = c.in_ok-set_output.ensures.ascending;
  keeps = keeps_then c.loop-place.invariant.keeps c.in_ok-set_output.ensures.keeps;
}
