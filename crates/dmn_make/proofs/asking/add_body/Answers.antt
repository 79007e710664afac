use Rattle.std.proofs.Common.{arith, ap, sym, ◌∙◌}
use Rattle.dmn_desk.specs.declared.answer.Answer.{Answer}
use Rattle.dmn_registry.specs.Machine.{Machine}
use Rattle.dmn_make.proofs.Asked.{answers_as, body_asks, body_departs, does_as, idle_fails, idle_goes, long_body}
use Rattle.dmn_make.proofs.Fitting.{place_read}
use Rattle.dmn_make.proofs.asking.add_body.Goals as goal

pub returns-then-body-clause-does : goal.returns-then-body-clause-does
returns-then-body-clause-does g c = λ tells m stands. idle_goes _ _ _ m _ _ (g.D.Device.past_is_over c.args.disk.now) stands (long_body m c.args.body.now (omega arith))

pub returns-then-body-clause-answers : goal.returns-then-body-clause-answers
returns-then-body-clause-answers g c = λ tells m stands. sym (ap (λ (p : Answer × Machine). p.0) (long_body m c.args.body.now (omega arith)))

pub returns-in-Ok-clause-does : goal.returns-in-Ok-clause-does
returns-in-Ok-clause-does g c = λ tells. does_as c.ask.result _ _ _ _ _ _ _ (λ m. ap (λ (p : Answer × Machine). p.1) (sym (body_asks m c.args.body.now c.in-Ok.request (omega arith) c.in-Ok.ensures.told))) (c.ask.ensures.does tells)

pub returns-in-Ok-clause-answers : goal.returns-in-Ok-clause-answers
returns-in-Ok-clause-answers g c = λ tells. answers_as c.ask.result _ _ _ _ (λ m. ap (λ (p : Answer × Machine). p.0) (sym (body_asks m c.args.body.now c.in-Ok.request (omega arith) c.in-Ok.ensures.told))) (c.ask.ensures.answers tells)

pub returns-in-Err-BadRequest-clause-does : goal.returns-in-Err-BadRequest-clause-does
returns-in-Err-BadRequest-clause-does g c = λ tells m stands.
    let told = rw c.in-Err-BadRequest.field-0-is at c.in-Err-BadRequest.ensures.told in
    idle_goes _ _ _ m _ _ (g.D.Device.past_is_over c.args.disk.now) stands (body_departs m c.args.body.now told.0 _ (omega arith) told.1 (told.2 ∙ sym c.in-Err-BadRequest.at-is))

pub returns-in-Err-BadRequest-clause-answers : goal.returns-in-Err-BadRequest-clause-answers
returns-in-Err-BadRequest-clause-answers g c = λ tells m stands.
    let told = rw c.in-Err-BadRequest.field-0-is at c.in-Err-BadRequest.ensures.told in
    sym (ap (λ (p : Answer × Machine). p.0) (body_departs m c.args.body.now told.0 _ (omega arith) told.1 (told.2 ∙ sym c.in-Err-BadRequest.at-is)))

pub returns-in-Err-Memory-clause-does : goal.returns-in-Err-Memory-clause-does
returns-in-Err-Memory-clause-does g c = λ tells m stands. idle_fails _ _ _ m _ (g.D.Device.past_is_over c.args.disk.now) stands

pub returns-in-Ok-clause-sure : goal.returns-in-Ok-clause-sure
returns-in-Ok-clause-sure g c = λ told m stands place fits. c.ask.ensures.sure told m stands (place_read m c.args.body.now c.in-Ok.request (g.D.Device.disk c.args.disk.now).room c.in-Ok.ensures.told place) fits
