use Rattle.std.proofs.Common.{sym, ◌∙◌, ap}
use Rattle.dmn_snapshot.proofs.Parts.{close_read, close_write, close_done, close_kept, but_unread, has_unread}
use Rattle.dmn_outside.specs.Changes.{but}
use Rattle.dmn_outside.specs.Disk.{Told}
use Rattle.dmn_snapshot.proofs.laying.close_gate.Goals as goal

pub returns-in_err-byte-clause-moments : goal.returns-in_err-byte-clause-moments
returns-in_err-byte-clause-moments g c = λ still. let d = g.D.Device.disk c.args.disk.now in close_read c.args.file _ 0 d _ d (g.D.Device.past_is_over c.args.disk.now) c.gate.ensures.disk still

pub returns-then-shut_by-clause-moments : goal.returns-then-shut_by-clause-moments
returns-then-shut_by-clause-moments g c = λ still. let d = g.D.Device.disk c.args.disk.now in close_read c.args.file _ 0 d _ d (g.D.Device.past_is_over c.args.disk.now) c.gate.ensures.disk still

pub returns-then-shut_by-clause-done : goal.returns-then-shut_by-clause-done
returns-then-shut_by-clause-done g c = λ still. close_kept c.args.file _ _ c.in_ok-byte.byte c.gate.ensures.disk.told still c.in_ok-byte.ensures.gate (sym c.shut_by.ensures ∙ c.if-shut_by.true)

pub returns-clause-moments : goal.returns-clause-moments
returns-clause-moments g c = λ still. close_write c.args.file _ _ (g.D.Device.disk c.args.disk.now) _ _ (g.D.Device.past_is_over c.args.disk.now) c.gate.ensures.disk still c.in_ok-byte.byte c.in_ok-byte.ensures.gate (sym c.shut_by.ensures ∙ c.if-shut_by.false) c.gate.ensures.time c.write_synced.ensures.moments

pub returns-clause-done : goal.returns-clause-done
returns-clause-done g c = λ still. close_done c.args.file c.write_synced.result _ _ (has_unread c.args.file (λ text. Unit {0}) _ _ c.gate.ensures.disk.told still) c.write_synced.ensures.done

pub returns-clause-others : goal.returns-clause-others
returns-clause-others g c = but_unread c.args.file _ _ c.write_synced.ensures.others ∙ ap (λ (d : Told). but c.args.file d) c.gate.ensures.disk.told
