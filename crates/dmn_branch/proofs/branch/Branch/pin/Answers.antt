use Rattle.std.proofs.Common.{◌≡◌, ◌++◌, ◌∷◌, [], List, Option, Some, refl, sym, ap, ◌∙◌, subst}
use Rattle.std.specs.List.{All, slice_index}
use Rattle.std.proofs.lemmas.List.Elements.{All-push}
use Rattle.dmn_indexes.specs.Version as versions
use Rattle.dmn_branch.specs.declared.pins.Pin.{Pin}
use Rattle.dmn_branch.specs.Machine as machine
use Rattle.dmn_branch.specs.Parts.{StandsIn}
use Rattle.dmn_branch.specs.Pins.{Pinned, Pins, free_number, with_pin}
use Rattle.dmn_branch.specs.Stands.{IsPinned, Keeping, StandsFor, kept_in, pinned_in, pins_in}
use Rattle.dmn_branch.proofs.Holding.{ok_from}
use Rattle.dmn_branch.proofs.Pinning.{fresh_number, next_number, numbered_with, pin_made, pins_more, repinned}
use Rattle.dmn_branch.proofs.branch.Branch.pin.Goals as goal

abbrev made : goal.After-self-1 → Pin
made c = record { number = c.in-Some.number; height = c.args.height; root = c.held_at-held.result.now.version.rows; mark = slice_index c.held_at-held.result.now.marks 0 }

added : (c : goal.After-self-1) → c.add.new.self ≡ c.self.inside.pins ++ made c ∷ []
added c = ok_from c.add.result (sym c.is_err.ensures.value ∙ c.if-is_err.false) c.add.ensures.ok

free : (c : goal.After-self-1) → free_number c.args.self.now.pins ≡ Some c.in-Some.number
free c = sym c.free_number.ensures ∙ c.in-Some.is

pub invariant_of-self-2 : goal.invariant_of-self-2
invariant_of-self-2 c =
    let ix = c.self.inside.indexes in
    let whole = subst (λ (b : Keeping). versions.IsWhole b.indexes c.held_at-held.result.now.version) (sym c.self.view_is) c.held_at-held.ensures.whole in
    let one : IsPinned ix (made c) = record { sound = whole.sound; below = c.held_at-held.ensures.below.rows; hashes = whole.reads } in
    (c.self.invariant.0, c.self.invariant.1, subst (All (IsPinned ix)) (sym (added c)) (All-push (IsPinned ix) c.self.inside.pins (made c) c.self.invariant.2 one))

pub returns-clause-fresh : goal.returns-clause-fresh
returns-clause-fresh c = λ m stands.
    fresh_number m.pins c.in-Some.number stands.numbered (ap free_number (sym stands.pins) ∙ free c)

pub returns-clause-pinned : goal.returns-clause-pinned
returns-clause-pinned c = λ m stands.
    let ix = c.self.inside.indexes in
    let pins = c.self.inside.pins in
    let held = c.held_at-held.result.now in
    let before = subst (λ (b : Keeping). StandsFor b m) (sym c.self.view_is) stands in
    let at = subst (λ (b : Keeping). StandsIn (kept_in b.indexes c.args.height held) (machine.state_at m c.args.height)) (sym c.self.view_is) (c.held_at-held.ensures.stands m stands) in
    let one : pinned_in ix (made c) ≡ machine.pin_at m c.in-Some.number c.args.height = pin_made ix m (kept_in ix c.args.height held) (made c) refl refl at in
    let is : pins_in ix c.add.new.self c.checked_add-self-inside.result ≡ with_pin m.pins (machine.pin_at m c.in-Some.number c.args.height) =
    ap (λ (l : List Pin). pins_in ix l c.checked_add-self-inside.result) (added c)
    ∙ ap (λ (n : Option _). pins_in ix (pins ++ made c ∷ []) n) (next_number c.checked_add-self-inside.result c.in-Some.number c.checked_add-self-inside.ensures)
    ∙ pins_more ix pins c.self.inside.next_pin (made c)
    ∙ ap (λ (p : Pins). with_pin p (pinned_in ix (made c))) before.pins
    ∙ ap (λ (p : Pinned). with_pin m.pins p) one in
    repinned _ _ m (with_pin m.pins (machine.pin_at m c.in-Some.number c.args.height)) refl is
    (numbered_with m.pins (machine.pin_at m c.in-Some.number c.args.height) stands.numbered (ap free_number (sym stands.pins) ∙ free c)) before
