use Rattle.std.proofs.Common.{◌≡◌, ◌+◌, length, refl, sym, ap, ◌∙◌, subst}
use Rattle.dmn_quorums.specs.Duty.{undone}
use Rattle.dmn_branch.specs.Stands.{IsKept, Keeping, lists_in, low_kept, low_of, tip_kept}
use Rattle.dmn_branch.proofs.Leaving.{left_stands}
use Rattle.dmn_branch.proofs.Mining.{same_dropped, settled_by}
use Rattle.dmn_branch.proofs.branch.Branch.settle.Goals as goal

pub returns-clause-left : goal.returns-clause-left
returns-clause-left c =
    let inside = c.self.inside in
    let height = c.tip_height-height.ensures.next ∙ ap (λ (b : Keeping). low_kept b + length b.lists) (sym c.self.view_is) in
    record {
      profile = ap (λ (b : Keeping). b.profile) c.self.view_is;
      first = ap (λ (b : Keeping). b.first) c.self.view_is;
      held = ap (λ (b : Keeping). b.held) c.self.view_is;
      lists = ap (λ (b : Keeping). b.lists) c.self.view_is;
      coinbases = ap (λ (b : Keeping). b.coinbases) c.self.view_is;
      mined = subst (λ (b : Keeping). undone (tip_kept b) c.undo.new.self ≡ undone (tip_kept b) b.mined) c.self.view_is
          (same_dropped (low_of inside.profile inside.first inside.top) (length (lists_in inside.indexes (low_of inside.profile inside.first inside.top) inside.held.held)) c.tip_height-height.result inside.mined c.undo.new.self height c.undo.ensures);
      top = ap (λ (b : Keeping). b.top) c.self.view_is;
      pinned = ap (λ (b : Keeping). b.pinned) c.self.view_is;
      pins = ap (λ (b : Keeping). b.pins) c.self.view_is;
    }

pub returns-clause-same : goal.returns-clause-same
returns-clause-same c = λ m stands. left_stands m (returns-clause-left c) (subst (λ (b : Keeping). IsKept b.profile b.first b.top b.lists) c.self.view_is c.self.invariant.0) refl c.self.invariant.1 stands

pub returns-clause-settled : goal.returns-clause-settled
returns-clause-settled c =
    let inside = c.self.inside in
    let height = c.tip_height-height.ensures.next ∙ ap (λ (b : Keeping). low_kept b + length b.lists) (sym c.self.view_is) in
    settled_by (low_of inside.profile inside.first inside.top) (length (lists_in inside.indexes (low_of inside.profile inside.first inside.top) inside.held.held)) c.tip_height-height.result inside.mined c.undo.new.self height c.undo.ensures
