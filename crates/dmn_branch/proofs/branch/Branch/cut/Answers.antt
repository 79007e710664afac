use Rattle.std.proofs.Common.{◌≡◌, ℕ, ◌-◌, ◌+◌, List, length, Some, refl, sym, ap, subst, ◌∙◌}
use Rattle.std.specs.Prelude.{slice_get}
use Rattle.dmn_indexes.specs.Marks.{Cut, KeepsBelow}
use Rattle.dmn_quorums.specs.Duty.{undone}
use Rattle.dmn_branch.specs.declared.held.Held.{Held}
use Rattle.dmn_branch.specs.Stands.{Kept, Keeping, IsKept, lists_in, low_kept, low_of, marks_over, tip_kept}
use Rattle.dmn_branch.proofs.Holding.{Held_on, cut_on, some_is}
use Rattle.dmn_branch.proofs.Leaving.{left_stands}
use Rattle.dmn_branch.proofs.Mining.{same_dropped, settled_by}
use Rattle.dmn_branch.proofs.Pinning.{PinsOn, keeps_over, pins_cut, pins_read}
use Rattle.dmn_branch.proofs.branch.Branch.cut.Goals as goal

pins_by : (c : goal.After-undo) → PinsOn c.self.inside.indexes c.cut.new.self c.self.inside.pins
pins_by c =
    let ix = c.self.inside.indexes in
    let cut = subst (λ (l : List ℕ). Cut l ix c.cut.new.self) c.marks_over.ensures c.cut.ensures.cut in
    pins_cut ix c.cut.new.self c.self.inside.pins c.last.result.now.marks cut c.self.invariant.2

held_by : (c : goal.After-undo) → Held_on c.self.inside.indexes c.cut.new.self (low_of c.self.inside.profile c.self.inside.first c.self.inside.top) c.self.inside.held.held
held_by c =
    let last = c.last.result.now in
    let some = subst (λ (b : Keeping). slice_get b.held (length b.held - 1) ≡ Some last) (sym c.self.view_is) c.last.ensures.held in
    let marks = subst (λ (l : List ℕ). KeepsBelow l c.self.inside.indexes c.cut.new.self) c.marks_over.ensures c.cut.ensures.kept in
    cut_on (low_of c.self.inside.profile c.self.inside.first c.self.inside.top) c.self.inside.held.held last some (keeps_over c.self.inside.pins last.marks marks) c.self.invariant.1

pub invariant_of-self : goal.invariant_of-self
invariant_of-self c =
    let on = held_by c in
    (subst (IsKept c.self.inside.profile c.self.inside.first c.self.inside.top) (sym on.same) c.self.invariant.0, on.sound, (pins_by c).sound)

pub returns-clause-left : goal.returns-clause-left
returns-clause-left c =
    let inside = c.self.inside in
    let height = c.tip_height-height.ensures.next ∙ ap (λ (b : Keeping). low_kept b + length b.lists) (sym c.self.view_is) in
    record {
      profile = ap (λ (b : Keeping). b.profile) c.self.view_is;
      first = ap (λ (b : Keeping). b.first) c.self.view_is;
      held = ap (λ (b : Keeping). b.held) c.self.view_is;
      lists = (held_by c).same ∙ ap (λ (b : Keeping). b.lists) c.self.view_is;
      coinbases = ap (λ (b : Keeping). b.coinbases) c.self.view_is;
      mined = subst (λ (b : Keeping). undone (tip_kept b) c.undo.new.self ≡ undone (tip_kept b) b.mined) c.self.view_is
          (same_dropped (low_of inside.profile inside.first inside.top) (length (lists_in inside.indexes (low_of inside.profile inside.first inside.top) inside.held.held)) c.tip_height-height.result inside.mined c.undo.new.self height c.undo.ensures);
      top = ap (λ (b : Keeping). b.top) c.self.view_is;
      pinned = ap (λ (b : Keeping). b.pinned) c.self.view_is;
      pins = pins_read c.self.inside.next_pin (pins_by c) ∙ ap (λ (b : Keeping). b.pins) c.self.view_is;
    }

pub returns-clause-same : goal.returns-clause-same
returns-clause-same c = λ m stands. left_stands m (returns-clause-left c) (subst (λ (b : Keeping). IsKept b.profile b.first b.top b.lists) c.self.view_is c.self.invariant.0) refl (invariant_of-self c).1 stands

pub returns-clause-settled : goal.returns-clause-settled
returns-clause-settled c =
    let inside = c.self.inside in
    let low = low_of inside.profile inside.first inside.top in
    let height = c.tip_height-height.ensures.next ∙ ap (λ (b : Keeping). low_kept b + length b.lists) (sym c.self.view_is) in
    settled_by low (length (lists_in c.cut.new.self low inside.held.held)) c.tip_height-height.result inside.mined c.undo.new.self (height ∙ ap (λ (l : List Kept). low + length l) (sym (held_by c).same)) c.undo.ensures

pub returns-clause-cut : goal.returns-clause-cut
returns-clause-cut c = λ tip is.
    let last = c.last.result.now in
    let some = subst (λ (b : Keeping). slice_get b.held (length b.held - 1) ≡ Some last) (sym c.self.view_is) c.last.ensures.held in
    let same : last ≡ tip = some_is _ last tip some is in
    subst (λ (b : Keeping). Cut (marks_over c.self.inside.pins tip.marks) b.indexes c.cut.new.self) c.self.view_is
    (subst (λ (h : Held). Cut (marks_over c.self.inside.pins h.marks) c.self.inside.indexes c.cut.new.self) same
    (subst (λ (l : List ℕ). Cut l c.self.inside.indexes c.cut.new.self) c.marks_over.ensures c.cut.ensures.cut))
