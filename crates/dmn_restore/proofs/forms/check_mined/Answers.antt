use Rattle.std.proofs.Common.{arith}
use Rattle.dmn_held.specs.Lists.{mined_at}
use Rattle.dmn_restore.proofs.Fitting.{mined_by}
use Rattle.dmn_restore.proofs.Steps.{all_taken}
use Rattle.dmn_restore.proofs.forms.check_mined.Goals as goal

pub returns : goal.returns
returns c = mined_by c.args.mined.now (omega (arith, c.if-mined-gt4294967295.false)) (all_taken mined_at.Fits c.args.mined.now c.loop-place.place c.loop-place-test.false c.loop-place.invariant)
