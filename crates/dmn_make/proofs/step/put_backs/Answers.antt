use Rattle.std.proofs.Common.{arith}
use Rattle.dmn_make.proofs.Stepping.{more_backs}
use Rattle.dmn_make.proofs.step.put_backs.Goals as goal

pub loop-preserved : goal.loop-preserved
loop-preserved c = more_backs c.loop.steps.items c.put_step.new.steps.items _ c.loop.counter c.args.count (omega (arith, c.loop-test.true)) c.in_ok-put_step.ensures c.loop.invariant
