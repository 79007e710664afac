use Rattle.std.proofs.Common.{arith}
use Rattle.dmn_branch.proofs.quorums.inside.Goals as goal

pub inside-requires : goal.inside-requires
inside-requires c = omega (arith, c.in_ok-members.ensures.few)
