use Rattle.std.proofs.Common.{◌∙◌, ap, subst, sym}
use Rattle.std.specs.Prelude.{Option, Result}
use Rattle.dmn_outside.specs.Line.{LineView}
use Rattle.dmn_outside.specs.Pieces.{Took}
use Rattle.dmn_desk.specs.declared.answer.Answer.{Answer}
use Rattle.dmn_feed.specs.declared.asking.Stop.{Stop}
use Rattle.dmn_feed.specs.Steps.{Asks}
use Rattle.dmn_feed.proofs.Standing.{asked_does, asked_lacks}
use Rattle.dmn_outside.specs.Disk.{DiskView}
use Rattle.dmn_feed.specs.Room.{AsksSurely}
use Rattle.dmn_feed.proofs.Spending.{asked_surely, disk_same, kept_place, snaps_there}
use Rattle.dmn_feed.proofs.asking.ask.Goals as goal

pub returns-in-Ok-Lacking-clause-asks : goal.returns-in-Ok-Lacking-clause-asks
returns-in-Ok-Lacking-clause-asks g c = λ tells.
    let took = rw c.in-Ok-Lacking.field-0-is at (c.in-Ok-Lacking.ensures.bodies tells) in
    let whole = c.in-Ok-Lacking.ensures.lacking c.in-Ok-Lacking.field-0-is in
    asked_lacks (g.T.Device.time c.args.station.now) (g.T.Device.disk c.args.station.now) (g.T.Device.disk c.read_body.new.line) c.args.office.now c.reading_of-reading.result c.args.kind c.args.size _ _ (g.T.Device.past_is_over c.args.station.now) c.read_body.ensures.disk c.reading_of-reading.ensures whole took

pub returns-in-Ok-Kept-clause-asks : goal.returns-in-Ok-Kept-clause-asks
returns-in-Ok-Kept-clause-asks g c = λ tells.
    let x = (g.T.Device.line c.args.station.now).talk in
    let b = rw c.in-Ok-Kept.field-0-is at (c.in-Ok-Kept.ensures.bodies tells) in
    let took = subst (λ (v : LineView). Took c.args.size x v.talk) (sym c.answer_frame-answer.ensures.line) b.0 in
    let r = asked_does c.answer_frame-answer.result (g.T.Device.time c.args.station.now) (g.T.Device.time c.read_body.new.line) (g.T.Device.disk c.args.station.now) (g.T.Device.disk c.read_body.new.line) (g.T.Device.disk c.answer_frame-answer.new.disk) c.args.office.now c.answer_frame-answer.new.office c.reading_of-reading.result c.args.kind c.args.size c.as_slice.result.now
    x (g.T.Device.line c.answer_frame-answer.new.disk).talk c.read_body.ensures.quiet.time (g.T.Device.past_is_over c.args.station.now) c.read_body.ensures.disk c.reading_of-reading.ensures took (c.as_slice.ensures ∙ b.1) c.answer_frame-answer.ensures.gives in
    subst (λ (r : Result (Option Answer) Stop). Asks r (g.T.Device.time c.args.station.now) (g.T.Device.disk c.args.station.now) (g.T.Device.disk c.answer_frame-answer.new.disk) c.args.office.now c.args.kind c.args.size c.answer_frame-answer.new.office x (g.T.Device.line c.answer_frame-answer.new.disk).talk) (sym c.some_of.ensures) r

pub returns-in-Err-clause-sure : goal.returns-in-Err-clause-sure
returns-in-Err-clause-sure g c = λ tells told place snaps. absurd (c.in-Err.ensures.sure told)

pub returns-in-Ok-Cut-clause-sure : goal.returns-in-Ok-Cut-clause-sure
returns-in-Ok-Cut-clause-sure g c = λ tells told place snaps. (c.in-Ok-Cut.ensures.sure told, disk_same _ _ c.read_body.ensures.disk)

pub returns-in-Ok-Lacking-clause-sure : goal.returns-in-Ok-Lacking-clause-sure
returns-in-Ok-Lacking-clause-sure g c = λ tells told place snaps. (c.in-Ok-Lacking.ensures.sure told, disk_same _ _ c.read_body.ensures.disk)

pub returns-in-Ok-Kept-clause-sure : goal.returns-in-Ok-Kept-clause-sure
returns-in-Ok-Kept-clause-sure g c = λ tells told place snaps.
    let x = (g.T.Device.line c.args.station.now).talk in
    let d = g.T.Device.disk c.args.station.now in
    let end = c.args.office.now.registry.journal.end in
    let b = rw c.in-Ok-Kept.field-0-is at (c.in-Ok-Kept.ensures.bodies tells) in
    let holds = kept_place c.args.kind c.args.size c.reading_of-reading.result x.left c.as_slice.result.now end d.room (g.T.Device.disk c.read_body.new.line).room c.reading_of-reading.ensures (c.as_slice.ensures ∙ b.1) (ap (λ (v : DiskView). v.room) c.read_body.ensures.disk) b.0.enough place in
    let r = asked_surely c.answer_frame-answer.result (g.T.Device.room c.args.station.now) (g.T.Device.room c.read_body.new.line) (g.T.Device.room c.answer_frame-answer.new.disk) (g.T.Device.line c.args.station.now) (g.T.Device.line c.read_body.new.line) (g.T.Device.line c.answer_frame-answer.new.disk) d (g.T.Device.disk c.read_body.new.line) (g.T.Device.disk c.answer_frame-answer.new.disk)
    (c.in-Ok-Kept.ensures.sure told) c.answer_frame-answer.ensures.room c.answer_frame-answer.ensures.line c.read_body.ensures.disk (c.answer_frame-answer.ensures.sure told holds (snaps_there c.args.office.now.registry d (g.T.Device.disk c.read_body.new.line) c.read_body.ensures.disk snaps)) in
    subst (λ (r : Result (Option Answer) Stop). AsksSurely r (g.T.Device.room c.args.station.now) (g.T.Device.room c.answer_frame-answer.new.disk) (g.T.Device.line c.args.station.now) (g.T.Device.line c.answer_frame-answer.new.disk) d (g.T.Device.disk c.answer_frame-answer.new.disk)) (sym c.some_of.ensures) r
