use Rattle.std.proofs.Common.{arith, ◌+◌}
use Rattle.dmn_make.proofs.Stepping.{more_adds}
use Rattle.dmn_make.proofs.step.put_adds.Goals as goal

pub loop-height-preserved : goal.loop-height-preserved
loop-height-preserved c = more_adds c.args.chain c.loop-height.steps.items c.put_step.new.steps.items _ c.loop-height.height (c.args.from + c.args.count) (omega (arith, c.loop-height-test.true)) c.in_ok-put_step.ensures c.loop-height.invariant
