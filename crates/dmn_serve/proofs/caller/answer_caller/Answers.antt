use Rattle.std.proofs.Common.{inl, inr, subst, sym, arith}
use Rattle.dmn_outside.specs.Disk.{DiskView}
use Rattle.dmn_outside.specs.Line.{LineView}
use Rattle.dmn_http.specs.Texts.{reply_text}
use Rattle.dmn_office.specs.Offices.{GoesOn}
use Rattle.dmn_serve.specs.Steps.{Sends}
use Rattle.dmn_serve.proofs.One.{sends_reply}
use Rattle.dmn_serve.proofs.Replying.{answer_reply}
use Rattle.dmn_serve.proofs.Spending.{disk_same, disk_then, whole_behind, whole_or}
use Rattle.dmn_serve.proofs.caller.answer_caller.Goals as goal

pub returns-clause-answers : goal.returns-clause-answers
returns-clause-answers g c = λ tells.
    let bytes = reply_text c.reply_of-reply.result in
    let a = g.T.Device.line c.answer.new.disk in
    let z = g.T.Device.line c.write_reply.new.line in
    let sends = sends_reply c.write_reply.result g.T.Device.tells_moments (g.T.Device.time c.answer.new.disk) (g.T.Device.time c.write_reply.new.line) bytes (g.T.Device.disk c.answer.new.disk) a z (c.write_reply.ensures.sends tells) c.write_reply.ensures.cause
    (g.T.Device.past_is_over c.answer.new.disk) c.write_reply.ensures.later.moments (λ stamped. g.T.Device.even c.answer.new.disk tells stamped) (λ stamped. g.T.Device.even c.write_reply.new.line tells stamped) in (
      bytes,
      subst (λ (v : LineView). Sends g.T.Device.tells_moments bytes (g.T.Device.disk c.write_reply.new.line) v z) c.answer.ensures.line (subst (λ (d : DiskView). Sends g.T.Device.tells_moments bytes d a z) (sym c.write_reply.ensures.disk) sends),
      λ m stands.
          let next = c.in_ok-answer.ensures.gives m stands in (
            next.0,
            answer_reply m next.0 c.args.request.now c.in_ok-answer.answer c.reply_of-reply.result next.1 c.reply_of-reply.ensures,
            subst (λ (d : DiskView). GoesOn (g.T.Device.time c.args.station.now) (g.T.Device.disk c.args.station.now) d m next.0 c.answer.new.self) (sym c.write_reply.ensures.disk) next.2,
          ),
    )

pub returns-in_err-answer-clause-sure : goal.returns-in_err-answer-clause-sure
returns-in_err-answer-clause-sure g c = λ tells told place snaps. absurd (c.in_err-answer.ensures.sure told place snaps)

pub returns-clause-sure : goal.returns-clause-sure
returns-clause-sure g c = λ tells told place snaps.
    let bytes = reply_text c.reply_of-reply.result in
    let a = g.T.Device.line c.answer.new.disk in
    let z = g.T.Device.line c.write_reply.new.line in (
      disk_then _ _ _ (c.in_ok-answer.ensures.sure told place snaps) (disk_same _ _ c.write_reply.ensures.disk),
      elim (whole_or c.write_reply.result bytes (g.T.Device.room c.answer.new.disk) (g.T.Device.room c.write_reply.new.line) a z (c.write_reply.ensures.sends tells) (c.write_reply.ensures.sure told)) [
        | inl whole ↦ inl (whole_behind (g.T.Device.room c.args.station.now) (g.T.Device.room c.answer.new.disk) (g.T.Device.room c.write_reply.new.line) (g.T.Device.line c.args.station.now) a z c.answer.ensures.room c.answer.ensures.line whole)
        | inr lacks ↦ inr (
          bytes,
          omega (arith, lacks, c.answer.ensures.room),
          λ m stands. let next = c.in_ok-answer.ensures.gives m stands in (next.0, answer_reply m next.0 c.args.request.now c.in_ok-answer.answer c.reply_of-reply.result next.1 c.reply_of-reply.ensures),
        )
      ],
    )
