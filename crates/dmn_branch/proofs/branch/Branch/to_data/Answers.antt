use Rattle.std.proofs.Common.{◌≡◌, ℕ, ◌<◌, ◌∙◌, List, drop, length, Some, refl, sym, ap, subst, arith}
use Rattle.std.specs.Prelude.{slice_get}
use Rattle.dmn_payloads.specs.declared.mined.MinedAt.{MinedAt}
use Rattle.dmn_branch.specs.declared.held.Held.{Held}
use Rattle.dmn_branch.specs.Holds.{Holds}
use Rattle.dmn_branch.specs.Lean.{IsLean}
use Rattle.dmn_branch.specs.Machine as machine
use Rattle.dmn_branch.specs.Stands.{Keeping, StandsFor, low_kept, low_of}
use Rattle.dmn_branch.specs.Telling.{IsTold}
use Rattle.dmn_branch.proofs.Handing.{HasFirst, all_tellable, has_first, holds_told, if_both, lean_told}
use Rattle.dmn_branch.proofs.Holding.{lists_length}
use Rattle.dmn_branch.proofs.branch.Branch.to_data.Goals as goal

pub data_of-requires-clause-few : goal.data_of-requires-clause-few
data_of-requires-clause-few c =
    let b = c.self.inside in
    let low : c.low.result ≡ low_of b.profile b.first b.top = c.low.ensures ∙ ap low_kept (sym c.self.view_is) in
    omega (arith, low, lists_length b.indexes (low_of b.profile b.first b.top) b.held.held, c.self.invariant.0.tip)

pub data_of-requires-clause-tellable : goal.data_of-requires-clause-tellable
data_of-requires-clause-tellable c = let b = c.self.inside in all_tellable b.indexes (low_of b.profile b.first b.top) b.held.held c.self.invariant.1

pub returns-clause-holds : goal.returns-clause-holds
returns-clause-holds c = λ m stands.
    let b = c.self.inside in
    let held = b.held.held in
    let low : c.low.result ≡ low_of b.profile b.first b.top = c.low.ensures ∙ ap low_kept (sym c.self.view_is) in
    let some : 0 < length held = omega (arith, lists_length b.indexes (low_of b.profile b.first b.top) held, c.self.invariant.0.some) in
    let parts : HasFirst held = has_first held some in
    let at : slice_get held 0 ≡ Some parts.first = ap (λ (l : List Held). slice_get l 0) parts.is in
    let told = c.data_of.ensures.told parts.first at in
    if_both {R = λ held. Holds held m} c.data_of.result told c.data_of.ensures.form (λ d is form.
    holds_told _ m d parts.first parts.rest parts.is refl refl c.self.invariant.0 c.self.invariant.1
    (subst (λ (l : List MinedAt). IsTold b.indexes b.profile.quorums b.top (low_of b.profile b.first b.top) l parts.first parts.rest d) c.as_slice.ensures
    (subst (λ (l : List Held). IsTold b.indexes b.profile.quorums b.top (low_of b.profile b.first b.top) c.as_slice.result.now parts.first l d) (ap (drop 1) parts.is)
    (subst (λ (n : ℕ). IsTold b.indexes b.profile.quorums b.top n c.as_slice.result.now parts.first (drop 1 held) d) low is)))
    form (subst (λ (k : Keeping). StandsFor k m) (sym c.self.view_is) stands))

pub returns-clause-lean : goal.returns-clause-lean
returns-clause-lean c = λ m stands.
    let b = c.self.inside in
    let held = b.held.held in
    let low : c.low.result ≡ low_of b.profile b.first b.top = c.low.ensures ∙ ap low_kept (sym c.self.view_is) in
    let some : 0 < length held = omega (arith, lists_length b.indexes (low_of b.profile b.first b.top) held, c.self.invariant.0.some) in
    let parts : HasFirst held = has_first held some in
    let at : slice_get held 0 ≡ Some parts.first = ap (λ (l : List Held). slice_get l 0) parts.is in
    let told = c.data_of.ensures.told parts.first at in
    if_both {R = IsLean (machine.profile m)} c.data_of.result told c.data_of.ensures.form (λ d is form.
    lean_told _ m d parts.first parts.rest
    (subst (λ (l : List MinedAt). IsTold b.indexes b.profile.quorums b.top (low_of b.profile b.first b.top) l parts.first parts.rest d) c.as_slice.ensures
    (subst (λ (l : List Held). IsTold b.indexes b.profile.quorums b.top (low_of b.profile b.first b.top) c.as_slice.result.now parts.first l d) (ap (drop 1) parts.is)
    (subst (λ (n : ℕ). IsTold b.indexes b.profile.quorums b.top n c.as_slice.result.now parts.first (drop 1 held) d) low is)))
    (subst (λ (k : Keeping). StandsFor k m) (sym c.self.view_is) stands))
