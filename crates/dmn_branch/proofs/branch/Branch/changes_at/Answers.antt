use Rattle.std.proofs.Common.{List, Some, refl, sym, ◌∙◌, subst}
use Rattle.dmn_indexes.specs.Version as versions
use Rattle.dmn_rows.specs.declared.row.MnRow.{MnRow}
use Rattle.dmn_rows.specs.Rows.{plain_rows}
use Rattle.dmn_branch.specs.Asked.{LeavesOut, rows_at}
use Rattle.dmn_branch.specs.Machine as machine
use Rattle.dmn_branch.specs.Parts.{IsTreeOf, StandsIn}
use Rattle.dmn_branch.specs.Stands.{Keeping, kept_in}
use Rattle.dmn_branch.proofs.Asking.{if_ok}
use Rattle.dmn_branch.proofs.Changing.{gone_in, put_in, tree_of}
use Rattle.dmn_branch.proofs.Pinning.{rows_seen}
use Rattle.dmn_branch.proofs.branch.Branch.changes_at.Goals as goal

pub returns-clause-gone : goal.returns-clause-gone
returns-clause-gone c = λ m stands.
    let b = c.args.self.now in
    let held = c.held_at.result.now in
    let ix = c.self.inside.indexes in
    let old = subst (λ (b : Keeping). IsTreeOf b.indexes c.tree_at-old.result (rows_at m c.args.base)) (sym c.self.view_is) (c.tree_at-old.ensures.rows m stands) in
    let new = subst (λ (b : Keeping). IsTreeOf b.indexes held.version.rows (rows_at m (Some c.args.target))) (sym c.self.view_is) (tree_of b.indexes (kept_in b.indexes c.args.target held) c.args.target held.version.rows _ refl refl c.held_at.ensures.whole.reads (c.held_at.ensures.stands m stands)) in
    if_ok c.change.result (λ change is. is ∙ gone_in ix c.tree_at-old.result held.version.rows (rows_at m c.args.base) (rows_at m (Some c.args.target)) old new) c.change.ensures.gone

pub returns-clause-put : goal.returns-clause-put
returns-clause-put c = λ m stands.
    let b = c.args.self.now in
    let held = c.held_at.result.now in
    let ix = c.self.inside.indexes in
    let old = subst (λ (b : Keeping). IsTreeOf b.indexes c.tree_at-old.result (rows_at m c.args.base)) (sym c.self.view_is) (c.tree_at-old.ensures.rows m stands) in
    let whole = subst (λ (b : Keeping). versions.IsWhole b.indexes held.version) (sym c.self.view_is) c.held_at.ensures.whole in
    let at = subst (λ (b : Keeping). StandsIn (kept_in b.indexes c.args.target held) (machine.state_at m c.args.target)) (sym c.self.view_is) (c.held_at.ensures.stands m stands) in
    let rows = rows_seen (kept_in ix c.args.target held) c.args.target (machine.state_at m c.args.target) refl at in
    if_ok c.change.result (λ change is.
    subst (λ (l : List MnRow). LeavesOut (rows_at m c.args.base) (rows_at m (Some c.args.target)) (plain_rows c.args.target l)) (sym is)
    (put_in ix c.tree_at-old.result held.version.rows (rows_at m c.args.base) (rows_at m (Some c.args.target)) c.args.target old whole.reads rows)) c.change.ensures.put
