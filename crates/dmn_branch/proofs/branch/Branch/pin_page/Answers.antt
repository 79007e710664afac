use Rattle.std.proofs.Common.{◌≡◌, Some, None, sym, ap, ◌∙◌, subst}
use Rattle.std.specs.Prelude.{◌==◌, find}
use Rattle.std.specs.Option.{option_copied, option_map}
use Rattle.dmn_branch.specs.declared.pins.Pin.{Pin}
use Rattle.dmn_branch.specs.Pins.{Pins, pin_of}
use Rattle.dmn_branch.specs.Stands.{IsPinned, Keeping, StandsFor, pinned_in}
use Rattle.dmn_branch.proofs.Pinning.{found_has, page_is, pin_found}
use Rattle.dmn_branch.proofs.branch.Branch.pin_page.Goals as goal

pub returns-in_err-pin-clause-page : goal.returns-in_err-pin-clause-page
returns-in_err-pin-clause-page c = λ m stands.
    let ix = c.self.inside.indexes in
    let before = subst (λ (b : Keeping). StandsFor b m) (sym c.self.view_is) stands in
    let none : find (λ (p : Pin). p.number == c.args.number) c.self.inside.pins ≡ None = sym c.find.ensures ∙ ap option_copied c.in_err-pin.was in
    let is : pin_of m.pins c.args.number ≡ None = ap (λ (p : Pins). pin_of p c.args.number) (sym before.pins) ∙ pin_found ix c.self.inside.pins c.self.inside.next_pin c.args.number ∙ ap (option_map (pinned_in ix)) none in
    rw (is, c.from_residual.ensures) tt

found : (c : goal.After-page-arg-1) → find (λ (p : Pin). p.number == c.args.number) c.self.inside.pins ≡ Some c.in_ok-pin.pin.now
found c = sym c.find.ensures ∙ ap option_copied c.in_ok-pin.was

pub page-requires : goal.page-requires
page-requires c = (found_has (IsPinned c.self.inside.indexes) (λ (p : Pin). p.number == c.args.number) c.self.inside.pins c.in_ok-pin.pin.now c.self.invariant.2 (found c)).sound

pub returns-clause-page : goal.returns-clause-page
returns-clause-page c = λ m stands.
    let ix = c.self.inside.indexes in
    let pin = c.in_ok-pin.pin.now in
    let before = subst (λ (b : Keeping). StandsFor b m) (sym c.self.view_is) stands in
    let there : find (λ (p : Pin). p.number == c.args.number) c.self.inside.pins ≡ Some pin = sym c.find.ensures ∙ ap option_copied c.in_ok-pin.was in
    let is : pin_of m.pins c.args.number ≡ Some (pinned_in ix pin) = ap (λ (p : Pins). pin_of p c.args.number) (sym before.pins) ∙ pin_found ix c.self.inside.pins c.self.inside.next_pin c.args.number ∙ ap (option_map (pinned_in ix)) there in
    let has = found_has (IsPinned ix) (λ (p : Pin). p.number == c.args.number) c.self.inside.pins pin c.self.invariant.2 there in
    rw is (page_is ix pin c.args.from c.args.most _ has c.page.ensures.pairs)
