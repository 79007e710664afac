use Rattle.std.proofs.Common.{subst, sym, ◌∙◌}
use Rattle.dmn_outside.specs.Disk.{DiskView}
use Rattle.dmn_desk.specs.Asked.{HasRoom, entry_by}
use Rattle.dmn_http.specs.Exchanges.{Exchanges, Outcome, asks}
use Rattle.dmn_http.specs.Texts.{reply_text}
use Rattle.dmn_serve.specs.Steps.{Sends}
use Rattle.dmn_serve.proofs.One.{asked_served, gone_served, reply_served, sends_reply, undecided_served}
use Rattle.dmn_serve.proofs.Spending.{asked_surely, gone_surely, reply_surely, whole_or, snaps_there}
use Rattle.dmn_serve.proofs.caller.serve_caller.Goals as goal

pub returns-in-Ok-Ask-clause-serves : goal.returns-in-Ok-Ask-clause-serves
returns-in-Ok-Ask-clause-serves g c = λ tells new.
    let e = rw c.in-Ok-Ask.field-0-is at (c.in-Ok-Ask.ensures.reads tells) in
    asked_served g.T.Device.tells_moments (g.T.Device.time c.args.station.now) (g.T.Device.time c.read_exchange.new.line) (g.T.Device.disk c.args.station.now) (g.T.Device.disk c.read_exchange.new.line) c.args.office.now (g.T.Device.line c.args.station.now) (g.T.Device.line c.read_exchange.new.line)
    new c.read_exchange.ensures.quiet.moments c.read_exchange.ensures.quiet.faults c.read_exchange.ensures.quiet.time (g.T.Device.past_is_over c.args.station.now) c.read_exchange.ensures.disk
    c.answer_caller.result c.in-Ok-Ask.request c.answer_caller.new.office (g.T.Device.disk c.answer_caller.new.station) (g.T.Device.line c.answer_caller.new.station) e (c.answer_caller.ensures.answers tells)

pub returns-in-Ok-Reply-clause-serves : goal.returns-in-Ok-Reply-clause-serves
returns-in-Ok-Reply-clause-serves g c = λ tells new.
    let e = rw c.in-Ok-Reply.field-0-is at (c.in-Ok-Reply.ensures.reads tells) in
    let bytes = reply_text c.in-Ok-Reply.reply in
    let y = g.T.Device.line c.read_exchange.new.line in
    let z = g.T.Device.line c.write_reply.new.line in
    let sends = sends_reply c.write_reply.result g.T.Device.tells_moments (g.T.Device.time c.read_exchange.new.line) (g.T.Device.time c.write_reply.new.line) bytes (g.T.Device.disk c.read_exchange.new.line) y z (c.write_reply.ensures.sends tells) c.write_reply.ensures.cause
    (g.T.Device.past_is_over c.read_exchange.new.line) c.write_reply.ensures.later.moments (λ stamped. g.T.Device.even c.read_exchange.new.line tells stamped) (λ stamped. g.T.Device.even c.write_reply.new.line tells stamped) in
    reply_served g.T.Device.tells_moments (g.T.Device.time c.args.station.now) (g.T.Device.time c.read_exchange.new.line) (g.T.Device.disk c.args.station.now) (g.T.Device.disk c.read_exchange.new.line) c.args.office.now (g.T.Device.line c.args.station.now) y
    new c.read_exchange.ensures.quiet.moments c.read_exchange.ensures.quiet.faults c.read_exchange.ensures.quiet.time (g.T.Device.past_is_over c.args.station.now) c.read_exchange.ensures.disk
    c.in-Ok-Reply.reply (g.T.Device.disk c.write_reply.new.line) z e (c.write_reply.ensures.disk ∙ c.read_exchange.ensures.disk) (subst (λ (d : DiskView). Sends g.T.Device.tells_moments bytes d y z) (sym c.write_reply.ensures.disk) sends)

pub returns-in-Ok-Gone-clause-serves : goal.returns-in-Ok-Gone-clause-serves
returns-in-Ok-Gone-clause-serves g c = λ tells new.
    let e = rw c.in-Ok-Gone.field-0-is at (c.in-Ok-Gone.ensures.reads tells) in
    gone_served g.T.Device.tells_moments (g.T.Device.time c.args.station.now) (g.T.Device.time c.read_exchange.new.line) (g.T.Device.disk c.args.station.now) (g.T.Device.disk c.read_exchange.new.line) c.args.office.now (g.T.Device.line c.args.station.now) (g.T.Device.line c.read_exchange.new.line)
    new c.read_exchange.ensures.quiet.moments c.read_exchange.ensures.quiet.faults c.read_exchange.ensures.quiet.time (g.T.Device.past_is_over c.args.station.now) c.read_exchange.ensures.disk e

pub returns-in-Err-clause-serves : goal.returns-in-Err-clause-serves
returns-in-Err-clause-serves g c = λ tells new.
    undecided_served g.T.Device.tells_moments (g.T.Device.time c.args.station.now) (g.T.Device.time c.read_exchange.new.line) (g.T.Device.disk c.args.station.now) (g.T.Device.disk c.read_exchange.new.line) c.args.office.now (g.T.Device.line c.args.station.now) (g.T.Device.line c.read_exchange.new.line)
    new c.read_exchange.ensures.quiet.moments c.read_exchange.ensures.quiet.faults c.read_exchange.ensures.quiet.time (g.T.Device.past_is_over c.args.station.now) c.read_exchange.ensures.disk (c.in-Err.ensures.reads tells) c.in-Err.ensures.cause.failed

pub returns-in-Ok-Ask-clause-sure : goal.returns-in-Ok-Ask-clause-sure
returns-in-Ok-Ask-clause-sure g c = λ tells told place snaps.
    let e = rw c.in-Ok-Ask.field-0-is at (c.in-Ok-Ask.ensures.reads tells) in
    let kept = c.in-Ok-Ask.ensures.sure told in
    let asked : Exchanges (g.T.Device.line c.args.station.now).talk.left (asks c.in-Ok-Ask.request) = subst (λ (o : Outcome). Exchanges (g.T.Device.line c.args.station.now).talk.left o) e.shows e.asked in
    let here = subst (λ (d : DiskView). HasRoom (entry_by c.in-Ok-Ask.request) c.args.office.now.registry.journal.end d.room) (sym c.read_exchange.ensures.disk) (place c.in-Ok-Ask.request asked) in
    asked_surely (g.T.Device.room c.args.station.now) (g.T.Device.room c.read_exchange.new.line) (g.T.Device.room c.answer_caller.new.station) (g.T.Device.disk c.args.station.now) (g.T.Device.disk c.read_exchange.new.line) (g.T.Device.disk c.answer_caller.new.station) c.args.office.now
    (g.T.Device.line c.args.station.now) (g.T.Device.line c.read_exchange.new.line) (g.T.Device.line c.answer_caller.new.station) kept c.read_exchange.ensures.disk c.answer_caller.result c.in-Ok-Ask.request e (c.answer_caller.ensures.sure tells told here (snaps_there c.args.office.now.registry (g.T.Device.disk c.args.station.now) (g.T.Device.disk c.read_exchange.new.line) c.read_exchange.ensures.disk snaps))

pub returns-in-Ok-Reply-clause-sure : goal.returns-in-Ok-Reply-clause-sure
returns-in-Ok-Reply-clause-sure g c = λ tells told place snaps.
    let e = rw c.in-Ok-Reply.field-0-is at (c.in-Ok-Reply.ensures.reads tells) in
    let kept = c.in-Ok-Reply.ensures.sure told in
    let y = g.T.Device.line c.read_exchange.new.line in
    let z = g.T.Device.line c.write_reply.new.line in
    reply_surely (g.T.Device.room c.args.station.now) (g.T.Device.room c.read_exchange.new.line) (g.T.Device.room c.write_reply.new.line) (g.T.Device.disk c.args.station.now) (g.T.Device.disk c.read_exchange.new.line) (g.T.Device.disk c.write_reply.new.line) c.args.office.now
    (g.T.Device.line c.args.station.now) y z kept c.read_exchange.ensures.disk c.in-Ok-Reply.reply e c.write_reply.ensures.disk
    (whole_or c.write_reply.result (reply_text c.in-Ok-Reply.reply) (g.T.Device.room c.read_exchange.new.line) (g.T.Device.room c.write_reply.new.line) y z (c.write_reply.ensures.sends tells) (c.write_reply.ensures.sure told))

pub returns-in-Ok-Gone-clause-sure : goal.returns-in-Ok-Gone-clause-sure
returns-in-Ok-Gone-clause-sure g c = λ tells told place snaps.
    let e = rw c.in-Ok-Gone.field-0-is at (c.in-Ok-Gone.ensures.reads tells) in
    let y = g.T.Device.line c.read_exchange.new.line in
    gone_surely (g.T.Device.room c.args.station.now) (g.T.Device.room c.read_exchange.new.line) (g.T.Device.room c.read_exchange.new.line) (g.T.Device.disk c.args.station.now) (g.T.Device.disk c.read_exchange.new.line) (g.T.Device.disk c.read_exchange.new.line) c.args.office.now
    (g.T.Device.line c.args.station.now) y y (c.in-Ok-Gone.ensures.sure told) c.read_exchange.ensures.disk e

pub returns-in-Err-clause-sure : goal.returns-in-Err-clause-sure
returns-in-Err-clause-sure g c = λ tells told place snaps. absurd (c.in-Err.ensures.sure told)
