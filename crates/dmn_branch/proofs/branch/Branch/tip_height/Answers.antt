use Rattle.std.proofs.Common.{◌≡◌, ◌-◌, ◌<◌, length, ap, ◌∙◌, subst, arith}
use Rattle.dmn_branch.specs.Stands.{Keeping, low_of}
use Rattle.dmn_branch.proofs.Holding.{lists_length}
use Rattle.dmn_branch.proofs.branch.Branch.tip_height.Goals as goal

pub height_at-requires : goal.height_at-requires
height_at-requires c =
    let long = lists_length c.self.inside.indexes (low_of c.self.inside.profile c.self.inside.first c.self.inside.top) c.self.inside.held.held in
    subst (λ (b : Keeping). c.len.result - 1 < length b.held) c.self.view_is (omega (arith, long, c.self.invariant.0.some, c.len.ensures))

pub returns-clause-is : goal.returns-clause-is
returns-clause-is c =
    let long = subst (λ (b : Keeping). length b.lists ≡ length b.held) c.self.view_is (lists_length c.self.inside.indexes (low_of c.self.inside.profile c.self.inside.first c.self.inside.top) c.self.inside.held.held) in
    let some = subst (λ (b : Keeping). 0 < length b.lists) c.self.view_is c.self.invariant.0.some in
    let len = c.len.ensures ∙ ap (λ (b : Keeping). length b.held) c.self.view_is in
    omega (arith, long, some, len, c.height_at.ensures)

pub returns-clause-next : goal.returns-clause-next
returns-clause-next c =
    let long = subst (λ (b : Keeping). length b.lists ≡ length b.held) c.self.view_is (lists_length c.self.inside.indexes (low_of c.self.inside.profile c.self.inside.first c.self.inside.top) c.self.inside.held.held) in
    let some = subst (λ (b : Keeping). 0 < length b.lists) c.self.view_is c.self.invariant.0.some in
    let len = c.len.ensures ∙ ap (λ (b : Keeping). length b.held) c.self.view_is in
    omega (arith, long, some, len, c.height_at.ensures)
