use Rattle.std.proofs.Common.{arith}
use Rattle.dmn_payloads.specs.Commitments.{commitment}
use Rattle.dmn_restore.proofs.Fitting.{commitments_by}
use Rattle.dmn_restore.proofs.Steps.{all_taken}
use Rattle.dmn_restore.proofs.forms.check_commitments.Goals as goal

pub returns : goal.returns
returns c = commitments_by c.args.commitments.now (omega (arith, c.if-commitments-gt4294967295.false)) (all_taken commitment.Fits c.args.commitments.now c.loop-place.place c.loop-place-test.false c.loop-place.invariant)
