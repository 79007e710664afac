use Rattle.std.proofs.Common.{◌≡◌, take}
use Rattle.dmn_branch.specs.Telling.{commitments_at}
use Rattle.dmn_branch.proofs.to_data.mined_here.Given as goal

abbrev pub invariant-loop-m : goal.invariant-loop-m
invariant-loop-m l = l.here.items ≡ commitments_at l.quorums l.height (take l.m-index l.mined)
