use Rattle.std.proofs.Common.{◌≡◌, ℕ, Bool, Some, sym, ap, ◌∙◌, subst, true}
use Rattle.std.specs.Prelude.{slice_get, ◌-◌}
use Rattle.dmn_branch.specs.Drawn.{undrawn}
use Rattle.dmn_quorums.specs.Forming.{inside}
use Rattle.dmn_branch.specs.Stands.{Keeping, kept_in, low_kept}
use Rattle.dmn_quorums.specs.Duty.{base_of, is_done, is_in_window}
use Rattle.dmn_branch.proofs.Unasked.{undrawn_is}
use Rattle.dmn_branch.proofs.branch.Branch.forming.Goals as goal

pub returns-then-not-has : goal.returns-then-not-has
returns-then-not-has c =
    let b = c.args.self.now in
    let params = c.args.params.now in
    let height = c.args.height in
    let within : is_in_window params b.first height ≡ true = subst (λ (k : Keeping). is_in_window params k.first height ≡ true) c.self.view_is (sym c.if-not-in_window.ensures) in
    let done : c.is_done-done.result ≡ is_done params height b.mined = c.is_done-done.ensures ∙ ap (λ (k : Keeping). is_done params height k.mined) c.self.view_is in
    let held : slice_get b.lists (base_of params height - low_kept b) ≡ Some (kept_in b.indexes (base_of params height) c.held_at-base.result.now) =
    ap (λ (n : ℕ). slice_get b.lists (n - low_kept b)) (sym c.base_of.ensures) ∙ c.held_at-base.ensures.list ∙ ap (λ (n : ℕ). Some (kept_in b.indexes n c.held_at-base.result.now)) c.base_of.ensures in
    undrawn_is c.args.drawn.now params (is_done params height b.mined) (is_in_window params b.first height) _ _ c.undrawn.result within held (sym c.if-not-has.ensures) (λ rows. c.undrawn.ensures rows ∙ ap (λ (d : Bool). undrawn (inside params d c.held_at-base.result.now.hash rows)) done)
