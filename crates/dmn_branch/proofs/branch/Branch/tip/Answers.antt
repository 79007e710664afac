use Rattle.std.proofs.Common.{ap, refl}
use Rattle.dmn_branch.specs.Stands.{Keeping, kept_at}
use Rattle.dmn_branch.proofs.Standing.{told_is}
use Rattle.dmn_branch.proofs.branch.Branch.tip.Goals as goal

pub returns-clause-tip : goal.returns-clause-tip
returns-clause-tip c = λ m stands.
    let front = c.front-front.result in
    told_is c.args.self.now m (kept_at c.args.self.now.indexes front) front.height front.hash c.low.result c.self.inside.top stands c.front-front.ensures.list refl refl c.low.ensures (ap (λ (b : Keeping). b.top) c.self.view_is)
