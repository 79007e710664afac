use Rattle.std.proofs.Common.{◌≡◌, List, refl, sym, ap, ◌∙◌, subst}
use Rattle.std.specs.List.{All}
use Rattle.std.specs.Prelude.{◌==◌, is_some, not}
use Rattle.dmn_branch.specs.declared.pins.Pin.{Pin}
use Rattle.dmn_branch.specs.Pins.{Pins, pin_of, without_pin}
use Rattle.dmn_branch.specs.Stands.{IsPinned, Keeping, StandsFor, pinned_in, pins_in}
use Rattle.dmn_branch.proofs.Pinning.{left_of, numbered_without, pin_found, pins_less, repinned, some_alike, some_mapped}
use Rattle.dmn_branch.proofs.branch.Branch.release.Goals as goal

pub returns-then-is_none-clause-live : goal.returns-then-is_none-clause-live
returns-then-is_none-clause-live c = λ m stands.
    let ix = c.self.inside.indexes in
    let before = subst (λ (b : Keeping). StandsFor b m) (sym c.self.view_is) stands in
    sym c.if-is_none.ensures
    ∙ some_alike c.find.result
    ∙ ap is_some c.find.ensures
    ∙ some_mapped (pinned_in ix) _
    ∙ ap is_some (sym (pin_found ix c.self.inside.pins c.self.inside.next_pin c.args.number))
    ∙ ap (λ (p : Pins). is_some (pin_of p c.args.number)) before.pins

pub invariant_of-self : goal.invariant_of-self
invariant_of-self c =
    let ix = c.self.inside.indexes in
    (c.self.invariant.0, c.self.invariant.1, subst (All (IsPinned ix)) (sym c.drop.ensures) (left_of (IsPinned ix) (λ (p : Pin). not (p.number == c.args.number)) c.self.inside.pins c.self.invariant.2))

pub returns-clause-live : goal.returns-clause-live
returns-clause-live c = λ m stands.
    let ix = c.self.inside.indexes in
    let before = subst (λ (b : Keeping). StandsFor b m) (sym c.self.view_is) stands in
    sym c.if-is_none.ensures
    ∙ some_alike c.find.result
    ∙ ap is_some c.find.ensures
    ∙ some_mapped (pinned_in ix) _
    ∙ ap is_some (sym (pin_found ix c.self.inside.pins c.self.inside.next_pin c.args.number))
    ∙ ap (λ (p : Pins). is_some (pin_of p c.args.number)) before.pins

pub returns-clause-stands : goal.returns-clause-stands
returns-clause-stands c = λ m stands.
    let ix = c.self.inside.indexes in
    let next = c.self.inside.next_pin in
    let before = subst (λ (b : Keeping). StandsFor b m) (sym c.self.view_is) stands in
    let is : pins_in ix c.drop.new.self next ≡ without_pin m.pins c.args.number =
    ap (λ (l : List Pin). pins_in ix l next) c.drop.ensures
    ∙ pins_less ix c.self.inside.pins next c.args.number
    ∙ ap (λ (p : Pins). without_pin p c.args.number) before.pins in
    repinned _ _ m (without_pin m.pins c.args.number) refl is (numbered_without m.pins c.args.number stands.numbered) before
