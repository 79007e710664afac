use Rattle.std.proofs.Common.{◌∙◌, ap, find, refl}
use Rattle.dmn_indexes.specs.Version.{rows_in}
use Rattle.dmn_rows.specs.Rows.{has_hash}
use Rattle.dmn_branch.specs.Stands.{Keeping, kept_in}
use Rattle.dmn_branch.proofs.Asking.{tells_row}
use Rattle.dmn_branch.proofs.branch.Branch.row_at.Goals as goal

pub returns : goal.returns
returns c = λ m stands.
    let held = c.held_at.result.now in
    tells_row c.args.height c.args.hash.now (kept_in c.args.self.now.indexes c.args.height held) _ _ refl
    (c.row_of.ensures ∙ ap (λ (b : Keeping). find (has_hash c.args.hash.now) (rows_in b.indexes held.version)) c.self.view_is)
    (c.held_at.ensures.stands m stands)
