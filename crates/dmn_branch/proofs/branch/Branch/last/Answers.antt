use Rattle.std.proofs.Common.{◌≡◌, ◌+◌, ◌-◌, ℕ, length, Some, ap, ◌∙◌, subst, arith}
use Rattle.std.specs.Prelude.{slice_get}
use Rattle.dmn_indexes.specs.Version as versions
use Rattle.dmn_branch.specs.Stands.{IsWhole, Keeping, kept_in, lists_in, low_of, tip_kept}
use Rattle.dmn_branch.proofs.Holding.{list_whole, lists_get, lists_length, version_whole}
use Rattle.dmn_branch.proofs.branch.Branch.last.Goals as goal

pub get-requires : goal.get-requires
get-requires c = omega (arith, c.len.ensures, c.self.invariant.0.some, lists_length c.self.inside.indexes (low_of c.self.inside.profile c.self.inside.first c.self.inside.top) c.self.inside.held.held)

there : (c : goal.After-get) → slice_get c.self.inside.held.held (length c.self.inside.held.held - 1) ≡ Some c.get.result.now
there c = subst (λ (n : ℕ). slice_get c.self.inside.held.held (n - 1) ≡ Some c.get.result.now) c.len.ensures c.get.ensures

-- the place of the tip
place : (c : goal.After-get) → low_of c.self.inside.profile c.self.inside.first c.self.inside.top + (length c.self.inside.held.held - 1) ≡ low_of c.self.inside.profile c.self.inside.first c.self.inside.top + length (lists_in c.self.inside.indexes (low_of c.self.inside.profile c.self.inside.first c.self.inside.top) c.self.inside.held.held) - 1
place c = omega (arith, c.self.invariant.0.some, lists_length c.self.inside.indexes (low_of c.self.inside.profile c.self.inside.first c.self.inside.top) c.self.inside.held.held)

pub returns-clause-held : goal.returns-clause-held
returns-clause-held c = subst (λ (b : Keeping). slice_get b.held (length b.held - 1) ≡ Some c.get.result.now) c.self.view_is (there c)

pub returns-clause-list : goal.returns-clause-list
returns-clause-list c =
    let ix = c.self.inside.indexes in
    let low = low_of c.self.inside.profile c.self.inside.first c.self.inside.top in
    let held = c.self.inside.held.held in
    subst (λ (b : Keeping). slice_get b.lists (length b.lists - 1) ≡ Some (kept_in b.indexes (tip_kept b) c.get.result.now)) c.self.view_is
    (ap (λ (n : ℕ). slice_get (lists_in ix low held) (n - 1)) (lists_length ix low held) ∙ lists_get ix low held (length held - 1) c.get.result.now (there c) ∙ ap (λ (n : ℕ). Some (kept_in ix n c.get.result.now)) (place c))

pub returns-clause-version : goal.returns-clause-version
returns-clause-version c =
    subst (λ (b : Keeping). versions.IsWhole b.indexes c.get.result.now.version) c.self.view_is
    (version_whole (low_of c.self.inside.profile c.self.inside.first c.self.inside.top) c.self.inside.held.held (length c.self.inside.held.held - 1) c.get.result.now c.self.invariant.1 (there c))

pub returns-clause-whole : goal.returns-clause-whole
returns-clause-whole c =
    subst (λ (b : Keeping). IsWhole (kept_in b.indexes (tip_kept b) c.get.result.now)) c.self.view_is
    (subst (λ (n : ℕ). IsWhole (kept_in c.self.inside.indexes n c.get.result.now)) (place c)
    (list_whole (low_of c.self.inside.profile c.self.inside.first c.self.inside.top) c.self.inside.held.held (length c.self.inside.held.held - 1) c.get.result.now c.self.invariant.1 (there c)))
