use Rattle.std.proofs.Common.{ap, arith, refl, ◌≡◌, ◌<◌, ◌++◌, subst, sym, ◌∙◌, List, ℕ, Ok, Err, length}
use Rattle.dmn_outside.specs.Disk.{DiskView}
use Rattle.dmn_outside.specs.Pieces.{SentFront, StampsAfter}
use Rattle.dmn_desk.specs.Texts.{frame_of}
use Rattle.dmn_feed.specs.declared.asking.Stop.TheVariants as stops
use Rattle.dmn_feed.specs.declared.feeding.Turn.TheVariants as turns
use Rattle.dmn_feed.specs.Steps.{Turned, Turns, reply_bytes}
use Rattle.dmn_feed.proofs.Replying.{replied}
use Rattle.dmn_feed.proofs.Turned.{turn_part, turn_sent, turn_stops, turned}
use Rattle.dmn_outside.specs.Line.{Talk}
use Rattle.dmn_outside.proofs.Passing.{room_kept}
use Rattle.dmn_frames.proofs.Spending.{spent_none, spent_whole}
use Rattle.dmn_frames.proofs.Turns.{cut_within}
use Rattle.dmn_feed.proofs.Spending.{disk_same, disk_then, next_place, snaps_there}
use Rattle.dmn_feed.proofs.feeding.serve_frame.Goals as goal

pub returns-in-Err-ask-clause-turns : goal.returns-in-Err-ask-clause-turns
returns-in-Err-ask-clause-turns g c = λ tells.
    let head = rw c.in-Ok-Of.field-0-is at (c.in-Ok-Of.ensures.heads tells) in
    turn_stops g.T.Device.tells_moments (g.T.Device.time c.args.station.now) (g.T.Device.time c.read_head.new.line) (g.T.Device.disk c.args.station.now) (g.T.Device.disk c.read_head.new.line) (g.T.Device.disk c.ask.new.station) c.args.office.now c.ask.new.office c.in-Ok-Of.kind c.in-Ok-Of.size
    (g.T.Device.line c.args.station.now) (g.T.Device.line c.read_head.new.line) (g.T.Device.line c.ask.new.station) c.read_head.ensures.quiet.time (g.T.Device.past_is_over c.args.station.now) c.read_head.ensures.disk head c.read_head.ensures.quiet.moments c.ask.ensures.quiet.moments c.in-Err-ask.stop (c.in-Err-ask.ensures.asks tells)

pub returns-in-Ok-clause-turns : goal.returns-in-Ok-clause-turns
returns-in-Ok-clause-turns g c = λ tells.
    let head = rw c.in-Ok-Of.field-0-is at (c.in-Ok-Of.ensures.heads tells) in
    let asks = rw c.in-Ok-Some.field-0-is at (c.in-Ok-Some.ensures.asks tells) in
    let r = replied (reply_bytes c.to-reply.result) _ _ _ _ _ _ c.in-Ok-Some.answer asks.1 c.to-reply.ensures in
    let text : c.as_slice.result.now ≡ frame_of r.answer = c.as_slice.ensures ∙ r.bytes_are in
    let sent : (g.T.Device.line c.send_all.new.line).talk ≡ record (g.T.Device.line c.ask.new.station).talk { sent = (g.T.Device.line c.ask.new.station).talk.sent ++ frame_of r.answer } = subst (λ (l : List ℕ). (g.T.Device.line c.send_all.new.line).talk ≡ record (g.T.Device.line c.ask.new.station).talk { sent = (g.T.Device.line c.ask.new.station).talk.sent ++ l }) text (c.in-Ok.ensures.sends tells) in
    subst (λ (d : DiskView). Turns (Ok turns.Answered) g.T.Device.tells_moments (g.T.Device.time c.args.station.now) (g.T.Device.disk c.args.station.now) d c.args.office.now c.ask.new.office (g.T.Device.line c.args.station.now) (g.T.Device.line c.send_all.new.line)) (sym c.send_all.ensures.disk)
    (turn_sent g.T.Device.tells_moments (g.T.Device.time c.args.station.now) (g.T.Device.time c.read_head.new.line) (g.T.Device.disk c.args.station.now) (g.T.Device.disk c.read_head.new.line) (g.T.Device.disk c.ask.new.station) c.args.office.now c.ask.new.office c.in-Ok-Of.kind c.in-Ok-Of.size
    (g.T.Device.line c.args.station.now) (g.T.Device.line c.read_head.new.line) (g.T.Device.line c.ask.new.station) c.read_head.ensures.quiet.time (g.T.Device.past_is_over c.args.station.now) c.read_head.ensures.disk head c.read_head.ensures.quiet.moments c.ask.ensures.quiet.moments r.answer (g.T.Device.time c.ask.new.station) (g.T.Device.time c.send_all.new.line) (g.T.Device.line c.send_all.new.line) (g.T.Device.past_is_over c.ask.new.station) r.fits asks.0 r.may sent
    (λ stamped. subst (λ (l : List ℕ). StampsAfter (g.T.Device.time c.ask.new.station) (g.T.Device.time c.send_all.new.line) (length l) (g.T.Device.line c.ask.new.station).moments (g.T.Device.line c.send_all.new.line).moments) text (c.in-Ok.ensures.moments stamped)))

pub returns-clause-turns : goal.returns-clause-turns
returns-clause-turns g c = λ tells.
    let head = rw c.in-Ok-Of.field-0-is at (c.in-Ok-Of.ensures.heads tells) in
    let asks = rw c.in-Ok-Some.field-0-is at (c.in-Ok-Some.ensures.asks tells) in
    let r = replied (reply_bytes c.to-reply.result) _ _ _ _ _ _ c.in-Ok-Some.answer asks.1 c.to-reply.ensures in
    let text : c.as_slice.result.now ≡ frame_of r.answer = c.as_slice.ensures ∙ r.bytes_are in
    let part : SentFront (frame_of r.answer) (g.T.Device.line c.ask.new.station).talk (g.T.Device.line c.send_all.new.line).talk = subst (λ (l : List ℕ). SentFront l (g.T.Device.line c.ask.new.station).talk (g.T.Device.line c.send_all.new.line).talk) text (c.in-Err-send_all.ensures.sends tells) in
    subst (λ (d : DiskView). Turns (Err stops.LineFault) g.T.Device.tells_moments (g.T.Device.time c.args.station.now) (g.T.Device.disk c.args.station.now) d c.args.office.now c.ask.new.office (g.T.Device.line c.args.station.now) (g.T.Device.line c.send_all.new.line)) (sym c.send_all.ensures.disk)
    (turn_part g.T.Device.tells_moments (g.T.Device.time c.args.station.now) (g.T.Device.time c.read_head.new.line) (g.T.Device.disk c.args.station.now) (g.T.Device.disk c.read_head.new.line) (g.T.Device.disk c.ask.new.station) c.args.office.now c.ask.new.office c.in-Ok-Of.kind c.in-Ok-Of.size
    (g.T.Device.line c.args.station.now) (g.T.Device.line c.read_head.new.line) (g.T.Device.line c.ask.new.station) c.read_head.ensures.quiet.time (g.T.Device.past_is_over c.args.station.now) c.read_head.ensures.disk head c.read_head.ensures.quiet.moments c.ask.ensures.quiet.moments r.answer (g.T.Device.time c.ask.new.station) (g.T.Device.time c.send_all.new.line) (g.T.Device.line c.send_all.new.line) (g.T.Device.past_is_over c.ask.new.station) r.fits asks.0 r.may part
    (λ stamped. subst (λ (l : List ℕ). (n : ℕ) × (n < length l) × StampsAfter (g.T.Device.time c.ask.new.station) (g.T.Device.time c.send_all.new.line) n (g.T.Device.line c.ask.new.station).moments (g.T.Device.line c.send_all.new.line).moments) text (c.in-Err-send_all.ensures.moments stamped)))

pub returns-in-Err-clause-sure : goal.returns-in-Err-clause-sure
returns-in-Err-clause-sure g c = λ tells told place snaps. absurd (c.in-Err.ensures.sure told)

pub returns-in-Ok-Ended-clause-sure : goal.returns-in-Ok-Ended-clause-sure
returns-in-Ok-Ended-clause-sure g c = λ tells told place snaps.
    let h = rw c.in-Ok-Ended.field-0-is at (c.in-Ok-Ended.ensures.heads tells) in
    (spent_none (c.in-Ok-Ended.ensures.sure told) (ap (λ (t : Talk). t.sent) h.1), disk_same _ _ c.read_head.ensures.disk)

pub returns-in-Ok-Cut-clause-sure : goal.returns-in-Ok-Cut-clause-sure
returns-in-Ok-Cut-clause-sure g c = λ tells told place snaps.
    let h = rw c.in-Ok-Cut.field-0-is at (c.in-Ok-Cut.ensures.heads tells) in
    (spent_none (c.in-Ok-Cut.ensures.sure told) (ap (λ (t : Talk). t.sent) h.2), disk_same _ _ c.read_head.ensures.disk)

pub returns-in-Err-ask-clause-sure : goal.returns-in-Err-ask-clause-sure
returns-in-Err-ask-clause-sure g c = λ tells told place snaps.
    let head = rw c.in-Ok-Of.field-0-is at (c.in-Ok-Of.ensures.heads tells) in
    absurd (c.in-Err-ask.ensures.sure tells told (next_place c.in-Ok-Of.kind c.in-Ok-Of.size (g.T.Device.line c.args.station.now).talk (g.T.Device.line c.read_head.new.line).talk c.args.office.now.registry.journal.end (g.T.Device.disk c.args.station.now).room (g.T.Device.disk c.read_head.new.line).room head (ap (λ (v : DiskView). v.room) c.read_head.ensures.disk) place) (snaps_there c.args.office.now.registry (g.T.Device.disk c.args.station.now) (g.T.Device.disk c.read_head.new.line) c.read_head.ensures.disk snaps))

pub returns-in-Ok-None-clause-sure : goal.returns-in-Ok-None-clause-sure
returns-in-Ok-None-clause-sure g c = λ tells told place snaps.
    let head = rw c.in-Ok-Of.field-0-is at (c.in-Ok-Of.ensures.heads tells) in
    let cut = rw c.in-Ok-None.field-0-is at (c.in-Ok-None.ensures.asks tells) in
    let kept = c.in-Ok-None.ensures.sure tells told (next_place c.in-Ok-Of.kind c.in-Ok-Of.size (g.T.Device.line c.args.station.now).talk (g.T.Device.line c.read_head.new.line).talk c.args.office.now.registry.journal.end (g.T.Device.disk c.args.station.now).room (g.T.Device.disk c.read_head.new.line).room head (ap (λ (v : DiskView). v.room) c.read_head.ensures.disk) place) (snaps_there c.args.office.now.registry (g.T.Device.disk c.args.station.now) (g.T.Device.disk c.read_head.new.line) c.read_head.ensures.disk snaps) in
    (spent_none (room_kept (c.in-Ok-Of.ensures.sure told) kept.0) (ap (λ (t : Talk). t.sent) (cut_within _ _ _ _ _ head cut.0).2), disk_then _ _ _ (disk_same _ _ c.read_head.ensures.disk) kept.1)

pub returns-in-Ok-clause-sure : goal.returns-in-Ok-clause-sure
returns-in-Ok-clause-sure g c = λ tells told place snaps.
    let head = rw c.in-Ok-Of.field-0-is at (c.in-Ok-Of.ensures.heads tells) in
    let asks = rw c.in-Ok-Some.field-0-is at (c.in-Ok-Some.ensures.asks tells) in
    let kept = c.in-Ok-Some.ensures.sure tells told (next_place c.in-Ok-Of.kind c.in-Ok-Of.size (g.T.Device.line c.args.station.now).talk (g.T.Device.line c.read_head.new.line).talk c.args.office.now.registry.journal.end (g.T.Device.disk c.args.station.now).room (g.T.Device.disk c.read_head.new.line).room head (ap (λ (v : DiskView). v.room) c.read_head.ensures.disk) place) (snaps_there c.args.office.now.registry (g.T.Device.disk c.args.station.now) (g.T.Device.disk c.read_head.new.line) c.read_head.ensures.disk snaps) in
    let took = ap (λ (t : Talk). t.sent) asks.0.after ∙ ap (λ (t : Talk). t.sent) head.after in (
      spent_whole _ (room_kept (c.in-Ok-Of.ensures.sure told) kept.0) (c.in-Ok.ensures.sure told) took (ap (λ (t : Talk). t.sent) (c.in-Ok.ensures.sends tells)),
      disk_then _ _ _ (disk_same _ _ c.read_head.ensures.disk) (disk_then _ _ _ kept.1 (disk_same _ _ c.send_all.ensures.disk)),
    )

pub returns-clause-sure : goal.returns-clause-sure
returns-clause-sure g c = λ tells told place snaps.
    let head = rw c.in-Ok-Of.field-0-is at (c.in-Ok-Of.ensures.heads tells) in
    let asks = rw c.in-Ok-Some.field-0-is at (c.in-Ok-Some.ensures.asks tells) in
    let kept = c.in-Ok-Some.ensures.sure tells told (next_place c.in-Ok-Of.kind c.in-Ok-Of.size (g.T.Device.line c.args.station.now).talk (g.T.Device.line c.read_head.new.line).talk c.args.office.now.registry.journal.end (g.T.Device.disk c.args.station.now).room (g.T.Device.disk c.read_head.new.line).room head (ap (λ (v : DiskView). v.room) c.read_head.ensures.disk) place) (snaps_there c.args.office.now.registry (g.T.Device.disk c.args.station.now) (g.T.Device.disk c.read_head.new.line) c.read_head.ensures.disk snaps) in
    let r = replied (reply_bytes c.to-reply.result) _ _ _ _ _ _ c.in-Ok-Some.answer asks.1 c.to-reply.ensures in
    let text : c.as_slice.result.now ≡ frame_of r.answer = c.as_slice.ensures ∙ r.bytes_are in
    let lacks = c.in-Err-send_all.ensures.sure told in
    let room = room_kept (c.in-Ok-Of.ensures.sure told) kept.0 in (
      r.answer,
      (g.T.Device.line c.ask.new.station).talk.left,
      subst (λ (d : DiskView). Turned (g.T.Device.time c.args.station.now) (g.T.Device.disk c.args.station.now) d c.args.office.now r.answer c.ask.new.office (g.T.Device.line c.args.station.now).talk.left (g.T.Device.line c.ask.new.station).talk.left) (sym c.send_all.ensures.disk)
          (turned g.T.Device.tells_moments (g.T.Device.time c.args.station.now) (g.T.Device.time c.read_head.new.line) (g.T.Device.disk c.args.station.now) (g.T.Device.disk c.read_head.new.line) (g.T.Device.disk c.ask.new.station) c.args.office.now c.ask.new.office c.in-Ok-Of.kind c.in-Ok-Of.size
          (g.T.Device.line c.args.station.now) (g.T.Device.line c.read_head.new.line) (g.T.Device.line c.ask.new.station) c.read_head.ensures.quiet.time (g.T.Device.past_is_over c.args.station.now) c.read_head.ensures.disk head c.read_head.ensures.quiet.moments c.ask.ensures.quiet.moments r.answer (g.T.Device.line c.ask.new.station).talk.left r.fits asks.0 r.may refl),
      omega (arith, lacks.lacks, room.room, ap length text),
    )
