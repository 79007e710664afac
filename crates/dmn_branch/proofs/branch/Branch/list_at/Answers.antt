use Rattle.std.proofs.Common.{◌∙◌, ap, length}
use Rattle.dmn_indexes.specs.Version.{rows_in}
use Rattle.dmn_branch.specs.Asked.{Lent}
use Rattle.dmn_branch.specs.Stands.{Keeping, kept_in}
use Rattle.dmn_branch.proofs.Standing.{lent_is}
use Rattle.dmn_branch.proofs.branch.Branch.list_at.Goals as goal

pub returns : goal.returns
returns c = λ m stands.
    let held = c.held_at.result.now in
    let lent : Keeping → Lent = λ b. record { hash = held.hash; root = held.root; size = length (rows_in b.indexes held.version); rows = rows_in b.indexes held.version } in
    lent_is (kept_in c.args.self.now.indexes c.args.height held) c.of.result _ (c.held_at.ensures.stands m stands) (c.of.ensures ∙ ap lent c.self.view_is)
