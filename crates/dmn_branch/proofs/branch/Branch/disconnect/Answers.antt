use Rattle.std.proofs.Common.{ℕ, ◌<◌, List, ◌∷◌, [], length, length-append, refl, sym, ap, subst, arith}
use Rattle.dmn_indexes.specs.declared.indexes.Indexes.{Indexes}
use Rattle.dmn_branch.specs.declared.held.Held.{Held}
use Rattle.dmn_branch.specs.Machine.{without_tip}
use Rattle.dmn_branch.specs.Stands.{Keeping, IsAboveFloor, IsKept, StandsFor, lists_in, low_of}
use Rattle.dmn_branch.proofs.Holding.{IsLessOn, lists_length, pop_on}
use Rattle.dmn_branch.proofs.Standing.{kept_less, some_left, stands_back}
use Rattle.dmn_branch.proofs.branch.Branch.disconnect.Goals as goal

some : (ix : Indexes) (low : ℕ) (held left : List Held) → 1 < length (lists_in ix low held) → (on : IsLessOn ix low held left) → 0 < length (lists_in ix low left)
some ix low held left many on = omega (arith, many, ap length on.lists, length-append (lists_in ix low left) (on.last ∷ []))

pub invariant_of-self : goal.invariant_of-self
invariant_of-self c =
    let profile = c.self.inside.profile in
    let first = c.self.inside.first in
    let top = c.self.inside.top in
    let ix = c.self.inside.indexes in
    let low = low_of profile first top in
    let held = c.self.inside.held.held in
    let left = lists_in ix low c.pop.new.self.held in
    let many = some_left _ c.self.invariant.0 (subst IsAboveFloor (sym c.self.view_is) c.requires) in
    let on = pop_on low held c.pop.new.self.held c.pop.ensures (omega (arith, many, lists_length ix low held)) c.self.invariant.1 in
    let high = subst IsAboveFloor (sym c.self.view_is) c.requires in
    let kept = subst (IsKept profile first top) on.lists c.self.invariant.0 in
    (kept_less profile first top left on.last kept (some ix low held c.pop.new.self.held many on) (omega (arith, high.above, ap length on.lists, length-append left (on.last ∷ []))), on.sound, c.self.invariant.2)

pub returns-clause-stands : goal.returns-clause-stands
returns-clause-stands c = λ m hash stands.
    let ix = c.self.inside.indexes in
    let low = low_of c.self.inside.profile c.self.inside.first c.self.inside.top in
    let held = c.self.inside.held.held in
    let many = some_left _ c.self.invariant.0 (subst IsAboveFloor (sym c.self.view_is) c.requires) in
    let on = pop_on low held c.pop.new.self.held c.pop.ensures (omega (arith, many, lists_length ix low held)) c.self.invariant.1 in
    let before = subst (λ (b : Keeping). StandsFor b m) (sym c.self.view_is) stands in
    c.cut.ensures.same (without_tip m hash)
    (stands_back _ _ m hash (record { profile = refl; first = refl; last = on.last; lists = on.lists; coinbase = on.coinbase; coinbases = on.coinbases; mined = refl; top = refl; pins = refl }) (some ix low held c.pop.new.self.held many on) refl on.sound before)
