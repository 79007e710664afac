use Rattle.std.proofs.lemmas.List.Elements.{All-more, All-nil}
use Rattle.dmn_bytes.specs.Points.{out_point}
use Rattle.dmn_rows.specs.declared.start.StartOutput.{StartOutput}
use Rattle.dmn_restore.proofs.Steps.{all_taken, no_output}
use Rattle.dmn_restore.proofs.fields.outputs_fit.Goals as goal

pub loop-place-init : goal.loop-place-init
loop-place-init c = All-nil (λ (output : StartOutput). out_point.Fits output.point)

pub loop-place-preserved : goal.loop-place-preserved
loop-place-preserved c = All-more (λ (output : StartOutput). out_point.Fits output.point) c.args.outputs.now c.loop-place.place no_output c.loop-place-test.true c.loop-place.invariant c.point_fits.ensures

pub returns : goal.returns
returns c = all_taken (λ (output : StartOutput). out_point.Fits output.point) c.args.outputs.now c.loop-place.place c.loop-place-test.false c.loop-place.invariant
