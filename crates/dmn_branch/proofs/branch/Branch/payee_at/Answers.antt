use Rattle.std.proofs.Common.{◌∙◌, ap, refl}
use Rattle.std.specs.Prelude.{slice_get}
use Rattle.dmn_indexes.specs.Version.{rows_in}
use Rattle.dmn_rows.specs.Waiting.{pay_order}
use Rattle.dmn_branch.specs.Stands.{Keeping, kept_in}
use Rattle.dmn_branch.proofs.Asking.{tells_payee}
use Rattle.dmn_branch.proofs.branch.Branch.payee_at.Goals as goal

pub returns : goal.returns
returns c = λ m stands.
    let held = c.held_at.result.now in
    tells_payee c.args.height (kept_in c.args.self.now.indexes c.args.height held) _ _ refl
    (c.least_pay.ensures.item ∙ ap (λ (b : Keeping). slice_get (pay_order (rows_in b.indexes held.version)) 0) c.self.view_is)
    (c.held_at.ensures.stands m stands)
