use Rattle.std.proofs.Common.{◌∙◌, ap, refl}
use Rattle.dmn_indexes.specs.Version.{rows_in}
use Rattle.dmn_branch.specs.Stands.{Keeping, kept_in}
use Rattle.dmn_branch.proofs.Asking.{first_hashes, hashes_few, if_ok, tells_payees}
use Rattle.dmn_branch.proofs.branch.Branch.payees_at.Goals as goal

pub returns-clause-payees : goal.returns-clause-payees
returns-clause-payees c = λ m stands.
    let held = c.held_at.result.now in
    if_ok c.payees_of.result (λ hashes is.
    tells_payees c.args.height c.args.count (kept_in c.args.self.now.indexes c.args.height held) _ hashes.items refl
    (is ∙ ap (λ (b : Keeping). first_hashes c.args.count (rows_in b.indexes held.version)) c.self.view_is)
    (c.held_at.ensures.stands m stands)) c.payees_of.ensures

pub returns-clause-few : goal.returns-clause-few
returns-clause-few c = if_ok c.payees_of.result (λ hashes is. hashes_few (rows_in c.self.inside.indexes c.held_at.result.now.version) c.args.count hashes.items is) c.payees_of.ensures
