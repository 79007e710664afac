use Rattle.std.proofs.Common.{◌≡◌, ◌∙◌, true, false, sym, ap, subst}
use Rattle.dmn_branch.specs.Asked.{told}
use Rattle.dmn_branch.specs.Fault.{TellsFull}
use Rattle.dmn_branch.specs.Pins.{free_number}
use Rattle.dmn_branch.specs.Stands as branches
use Rattle.dmn_branch.specs.Stands.{Keeping}
use Rattle.dmn_branch.specs.declared.fault.PinFault.{PinFault}
use Rattle.dmn_branch.specs.declared.tip.Tip.{Tip}
use Rattle.dmn_registry.specs.Machine.{state_of}
use Rattle.dmn_desk.specs.declared.answer.Answer.TheVariants.{Short}
use Rattle.dmn_desk.specs.declared.answer.ShortAnswer.TheVariants as short
use Rattle.dmn_desk.proofs.Commanding.{full_pins_answers, pin_answers, pin_refused}
use Rattle.dmn_desk.proofs.Heights.{held_is}
use Rattle.dmn_desk.proofs.pins.pin.Goals as goal

pub returns-then-not-is_held-clause-answers : goal.returns-then-not-is_held-clause-answers
returns-then-not-is_held-clause-answers c = λ desk disk. pin_refused desk c.args.height c.not_held.result c.args.registry.now disk (λ m stands.
    let is : c.tip-tip.result ≡ told (state_of m) = c.tip-tip.ensures.tip (state_of m) (subst (λ (b : Keeping). branches.StandsFor b (state_of m)) (sym c.branch-registry.ensures) stands.registry_stands.branch) in
    (held_is (state_of m) c.tip-tip.result c.args.height false is c.if-not-is_held.ensures, c.not_held.ensures ∙ ap (λ (t : Tip). Short (short.NotHeld t.low t.height)) is))

pub returns-in-Ok-clause-answers : goal.returns-in-Ok-clause-answers
returns-in-Ok-clause-answers c = λ desk disk. pin_answers desk c.args.height _ c.args.registry.now _ disk (λ m stands.
    let is : c.tip-tip.result ≡ told (state_of m) = c.tip-tip.ensures.tip (state_of m) (subst (λ (b : Keeping). branches.StandsFor b (state_of m)) (sym c.branch-registry.ensures) stands.registry_stands.branch) in
    (held_is (state_of m) c.tip-tip.result c.args.height true is c.if-not-is_held.ensures, c.in-Ok.ensures.number m stands.registry_stands, c.in-Ok.ensures.pinned m disk stands))

pub returns-in-Err-PinsFull-clause-answers : goal.returns-in-Err-PinsFull-clause-answers
returns-in-Err-PinsFull-clause-answers c = λ desk disk. full_pins_answers desk c.args.height c.args.registry.now _ disk (λ m stands.
    let is : c.tip-tip.result ≡ told (state_of m) = c.tip-tip.ensures.tip (state_of m) (subst (λ (b : Keeping). branches.StandsFor b (state_of m)) (sym c.branch-registry.ensures) stands.registry_stands.branch) in
    (held_is (state_of m) c.tip-tip.result c.args.height true is c.if-not-is_held.ensures, subst (λ (fault : PinFault). TellsFull (free_number m.pins) fault) c.in-Err-PinsFull.field-0-is (c.in-Err-PinsFull.ensures.full m stands.registry_stands), c.in-Err-PinsFull.ensures.same m disk stands))
