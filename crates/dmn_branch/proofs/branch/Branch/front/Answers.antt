use Rattle.std.proofs.Common.{◌≡◌, ◌+◌, ℕ, Some, sym, ap, ◌∙◌, subst}
use Rattle.dmn_indexes.specs.Version as versions
use Rattle.dmn_branch.specs.declared.held.HeightVersion.{HeightVersion}
use Rattle.dmn_branch.specs.Items.{version_at}
use Rattle.dmn_branch.specs.Stands.{IsWhole, kept_at, tip_kept}
use Rattle.dmn_branch.proofs.branch.Branch.front.Goals as goal

made : (c : goal.After-at) → c.at.result ≡ version_at (tip_kept c.args.self.now) c.last.result.now
made c = c.at.ensures ∙ ap (λ (n : ℕ). version_at n c.last.result.now) c.tip_height.ensures.is

pub returns-clause-list : goal.returns-clause-list
returns-clause-list c = c.last.ensures.list ∙ ap (λ (v : HeightVersion). Some (kept_at c.args.self.now.indexes v)) (sym (made c))

pub returns-clause-height : goal.returns-clause-height
returns-clause-height c = ap (λ (v : HeightVersion). v.height + 1) c.at.ensures ∙ c.tip_height.ensures.next

pub returns-clause-version : goal.returns-clause-version
returns-clause-version c = subst (λ (v : HeightVersion). versions.IsWhole c.args.self.now.indexes v.version) (sym (made c)) c.last.ensures.version

pub returns-clause-whole : goal.returns-clause-whole
returns-clause-whole c = subst (λ (v : HeightVersion). IsWhole (kept_at c.args.self.now.indexes v)) (sym (made c)) c.last.ensures.whole
