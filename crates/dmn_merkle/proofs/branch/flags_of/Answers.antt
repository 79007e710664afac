use Rattle.std.proofs.Common.{refl, ◌∙◌}
use Rattle.dmn_merkle.proofs.Branches.{flags_start, flag_given}
use Rattle.dmn_merkle.proofs.branch.flags_of.Goals as goal

pub loop-i-init : goal.loop-i-init
loop-i-init c = rw c.new-flags.ensures (flags_start c.args.d _ c.requires refl)

pub loop-i-preserved : goal.loop-i-preserved
loop-i-preserved c =
    rw (c.in_ok-extend.ensures.ok, c.saturating_sub-ones.ensures) (flag_given c.loop-i.flags _ c.loop-i.i c.loop-i.ones _ c.loop-i-test.true c.byte_of_ones.ensures ∙ c.loop-i.invariant)
