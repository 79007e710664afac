use Rattle.std.proofs.Common.{◌≡◌, ◌≤◌, arith, sym, ap, ◌∙◌, subst, Result, false}
use Rattle.dmn_desk.specs.Kinds.{kind_of, takes_no_memory}
use Rattle.dmn_feed.proofs.Standing.{fault_answer, gives_idle, gives_memory, long_answer, request_does, request_room, unknown_answer}
use Rattle.dmn_feed.proofs.answering.answer_frame.Goals as goal

pub returns-then-size-gt-LONGEST_BODY-clause-gives : goal.returns-then-size-gt-LONGEST_BODY-clause-gives
returns-then-size-gt-LONGEST_BODY-clause-gives g c = gives_idle c.args.number c.args.size c.args.kept.now _ _ _ _ (g.D.Device.past_is_over c.args.disk.now) (λ m. long_answer m c.args.number c.args.size c.args.kept.now (omega arith))

pub returns-in_default-clause-gives : goal.returns-in_default-clause-gives
returns-in_default-clause-gives g c = gives_idle c.args.number c.args.size c.args.kept.now _ _ _ _ (g.D.Device.past_is_over c.args.disk.now) (λ m. unknown_answer m c.args.number c.args.size c.args.kept.now c.if-size-gt-LONGEST_BODY.false (sym c.of.ensures ∙ c.in_default.is))

pub returns-in-Ok-clause-gives : goal.returns-in-Ok-clause-gives
returns-in-Ok-clause-gives g c =
    request_does c.args.number c.args.size c.args.kept.now c.in-Some.kind c.in-Ok.request (g.D.Device.time c.args.disk.now) (g.D.Device.disk c.args.disk.now) (g.D.Device.disk c.answer.new.disk) c.args.office.now c.answer.new.self
    c.if-size-gt-LONGEST_BODY.false c.requires.fits (sym c.of.ensures ∙ c.in-Some.is) c.in-Ok.ensures.told c.answer.result c.answer.ensures.gives

pub returns-in-Err-BadRequest-clause-gives : goal.returns-in-Err-BadRequest-clause-gives
returns-in-Err-BadRequest-clause-gives g c =
    let told = rw c.in-Err-BadRequest.field-0-is at c.in-Err-BadRequest.ensures.told in
    gives_idle c.args.number c.args.size c.args.kept.now _ _ _ _ (g.D.Device.past_is_over c.args.disk.now)
    (λ m. fault_answer m c.args.number c.args.size c.args.kept.now c.in-Some.kind told.0 _ c.if-size-gt-LONGEST_BODY.false (sym c.of.ensures ∙ c.in-Some.is) told.1 (told.2 ∙ sym c.in-Err-BadRequest.at-is))

pub returns-in-Err-Memory-clause-gives : goal.returns-in-Err-Memory-clause-gives
returns-in-Err-Memory-clause-gives g c =
    let known = sym c.of.ensures ∙ c.in-Some.is in
    let connects = c.in-Err-Memory.ensures.memory c.in-Err-Memory.field-0-is in
    let free : takes_no_memory (kind_of c.args.number) ≡ false = rw (known, connects) Rattle.std.proofs.Common.refl in
    gives_memory c.args.number c.args.size c.args.kept.now _ _ _ (g.D.Device.past_is_over c.args.disk.now) free

pub returns-in-Ok-clause-sure : goal.returns-in-Ok-clause-sure
returns-in-Ok-clause-sure g c = λ told place snaps. c.answer.ensures.sure told
    (request_room c.args.number c.args.size c.args.kept.now c.in-Some.kind c.in-Ok.request (g.D.Device.time c.args.disk.now) (g.D.Device.disk c.args.disk.now) (g.D.Device.disk c.answer.new.disk) c.args.office.now c.answer.new.self
    c.if-size-gt-LONGEST_BODY.false c.requires.fits (sym c.of.ensures ∙ c.in-Some.is) c.in-Ok.ensures.told c.args.office.now.registry.journal.end (g.D.Device.disk c.args.disk.now).room (place c.if-size-gt-LONGEST_BODY.false)) snaps
