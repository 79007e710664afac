use Rattle.std.proofs.lemmas.List.Elements.{All-more, All-nil}
use Rattle.dmn_bytes.specs.Points.{out_point}
use Rattle.dmn_restore.proofs.Steps.{all_taken, no_point}
use Rattle.dmn_restore.proofs.fields.points_fit.Goals as goal

pub loop-place-init : goal.loop-place-init
loop-place-init c = All-nil out_point.Fits

pub loop-place-preserved : goal.loop-place-preserved
loop-place-preserved c = All-more out_point.Fits c.args.points.now c.loop-place.place no_point c.loop-place-test.true c.loop-place.invariant c.point_fits.ensures

pub returns : goal.returns
returns c = all_taken out_point.Fits c.args.points.now c.loop-place.place c.loop-place-test.false c.loop-place.invariant
