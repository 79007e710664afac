use Rattle.std.proofs.Common.{◌≡◌, ℕ, ◌+◌, ◌-◌, length, Some, sym, ap, ◌∙◌, subst, arith}
use Rattle.std.specs.Prelude.{slice_get}
use Rattle.dmn_quorums.specs.Duty.{undone}
use Rattle.dmn_branch.specs.Machine.{tip}
use Rattle.dmn_branch.specs.Parts.{IsSettled, all_formed_in}
use Rattle.dmn_branch.specs.Stands.{Keeping, StandsFor, kept_at, lists_in, low_kept, low_of}
use Rattle.dmn_branch.proofs.Asking.{if_ok}
use Rattle.dmn_branch.proofs.Drawing.{all_formed_are}
use Rattle.dmn_branch.proofs.Unasked.{all_drawn}
use Rattle.dmn_branch.proofs.Mining.{settled_at}
use Rattle.dmn_branch.proofs.Standing.{tip_stands}
use Rattle.dmn_branch.proofs.branch.Branch.formings_behind.Goals as goal
use Rattle.dmn_branch.proofs.branch.Branch.formings_behind.Goals.{then-height-eq0-via-then-height-eq0, then-height-eq0-via-else-height-eq0+then-front-height}

pub returns-then-height-eq0 : goal.returns-then-height-eq0
returns-then-height-eq0 c = λ m stands next.
    let at = tip_stands c.args.self.now m _ stands c.front-front.ensures.list in
    let same : c.front-front.result.height ≡ (tip m).height = at.height in
    absurd (elim c.then-height-eq0.branch [
      | then-height-eq0-via-then-height-eq0 w ↦ omega (arith, next, w.if-height-eq0.true)
      | then-height-eq0-via-else-height-eq0+then-front-height w ↦ omega (arith, next, same, w.if-front-height.true)
    ])

pub returns : goal.returns
returns c = λ m stands next.
    let ix = c.self.inside.indexes in
    let last = c.front-front.result in
    let before = subst (λ (b : Keeping). StandsFor b m) (sym c.self.view_is) stands in
    let at = tip_stands _ m (kept_at ix last) before (subst (λ (b : Keeping). slice_get b.lists (length b.lists - 1) ≡ Some (kept_at b.indexes last)) (sym c.self.view_is) c.front-front.ensures.list) in
    let height = c.front-front.ensures.height ∙ ap (λ (b : Keeping). low_kept b + length b.lists) (sym c.self.view_is) in
    let settled = settled_at (low_of c.self.inside.profile c.self.inside.first c.self.inside.top) (length (lists_in ix (low_of c.self.inside.profile c.self.inside.first c.self.inside.top) c.self.inside.held.held)) last.height c.self.inside.mined height (subst IsSettled (sym c.self.view_is) c.requires.settled) in
    let rests = ap (λ (n : ℕ). undone n c.self.inside.mined) (sym at.height) ∙ settled in
    let behind : c.args.height ≡ last.height + 1 = next ∙ ap (λ (n : ℕ). n + 1) (sym at.height) in
    if_ok c.formings_of.result
    (λ formings is. is ∙ all_drawn _ ∙ ap (λ (b : Keeping). all_formed_in b c.args.height c.self.inside.profile.quorums) (sym c.self.view_is)
    ∙ all_formed_are _ m c.args.height before c.self.invariant.0 (behind ∙ height) rests next) c.formings_of.ensures
