use Rattle.std.proofs.Common.{◌<◌, length, sym, subst, arith}
use Rattle.dmn_branch.specs.Stands.{Keeping, low_of}
use Rattle.dmn_branch.proofs.Holding.{lists_length}
use Rattle.dmn_branch.proofs.branch.Branch.height_at.Goals as goal

pub overflow_cast-result : goal.overflow_cast-result
overflow_cast-result c =
    let inside = subst (λ (b : Keeping). c.args.place < length b.held) (sym c.self.view_is) c.requires in
    let long = lists_length c.self.inside.indexes (low_of c.self.inside.profile c.self.inside.first c.self.inside.top) c.self.inside.held.held in
    omega (arith, inside, long, c.self.invariant.0.tip)

pub overflow_add-result : goal.overflow_add-result
overflow_add-result c =
    let inside = subst (λ (b : Keeping). c.args.place < length b.held) (sym c.self.view_is) c.requires in
    let long = lists_length c.self.inside.indexes (low_of c.self.inside.profile c.self.inside.first c.self.inside.top) c.self.inside.held.held in
    omega (arith, inside, long, c.self.invariant.0.tip, c.low_of.ensures)
