use Rattle.std.proofs.Common.{sym, ◌∙◌}
use Rattle.dmn_block.proofs.Rules.{bad_end}
use Rattle.dmn_block.proofs.shape.bad_verdict.Goals as goal

pub returns : goal.returns
returns c = sym (c.loop-place.invariant.left ∙ bad_end c.args.count c.loop-place.from c.args.verdicts.now c.loop-place.place c.loop-place-test.false)
