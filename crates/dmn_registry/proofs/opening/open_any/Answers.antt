use Rattle.std.proofs.Common.{length, sym, ◌∙◌, arith}
use Rattle.dmn_branch.proofs.Starting.{start_bounds}
use Rattle.dmn_journal.specs.Journal.{header_text}
use Rattle.dmn_outside.specs.Changes.{bytes_read}
use Rattle.dmn_outside.proofs.Crash.{reads_on}
use Rattle.dmn_outside.proofs.Reading.{reads_back}
use Rattle.dmn_registry.proofs.Beginning.{bytes_all, header_at, opens_all, opens_at, reads_unread}
use Rattle.dmn_registry.proofs.Stopping.{heads_stop, replay_stops}
use Rattle.dmn_registry.proofs.Lengths.{header_long}
use Rattle.dmn_registry.proofs.opening.open_any.Goals as goal

pub begin-requires-clause-first : goal.begin-requires-clause-first
begin-requires-clause-first g c = omega (arith, c.in-Ok.ensures.heads.place, header_long c.in-Ok.found.0 c.in-Ok.ensures.heads.is_start)

pub limit_of-requires : goal.limit_of-requires
limit_of-requires g c = start_bounds c.in-Ok.found.0 c.in-Ok.ensures.heads.is_start

pub returns-clause-opens : goal.returns-clause-opens
returns-clause-opens g c = λ true_slots.
    opens_all c.in-Ok.found.0 c.in-Ok.found.1 c.in-Ok-newest.slot c.in-Ok-begin.begun (g.D.Device.disk c.args.disk.now).told _ _ _ _ c.in_ok-sync_all.ensures.reads c.in_ok-sync_all.ensures.quiet c.header.ensures.disk.told c.newest.ensures.disk.told
    c.in-Ok.ensures.heads c.in-Ok-newest.ensures.newest c.in-Ok-begin.ensures.begins c.replay_records.result c.limit_of.result c.limit_of.ensures.is c.replay_records.ensures.disk.told c.replay_records.ensures.newest c.replay_records.ensures.replays true_slots

pub returns-clause-moments : goal.returns-clause-moments
returns-clause-moments g c = reads_on _ _ _ _ _ (reads_on _ _ _ _ _ (reads_on _ _ _ _ _ c.sync_all.ensures.moments c.header.ensures.disk) c.newest.ensures.disk) c.replay_records.ensures.disk

pub returns-clause-reads : goal.returns-clause-reads
returns-clause-reads g c = reads_unread _ _ (c.replay_records.ensures.disk.told ∙ c.newest.ensures.disk.told ∙ c.header.ensures.disk.told) ∙ c.sync_all.ensures.reads

pub returns-clause-read : goal.returns-clause-read
returns-clause-read g c = λ m own.
    bytes_all c.replay_records.result c.in-Ok-begin.begun (length (header_text m.start)) c.in-Ok.found.1 (bytes_read 0 (g.D.Device.disk c.args.disk.now).told) _ _ _ _ c.sync_all.ensures.read c.in-Ok.ensures.read c.newest.ensures.read c.replay_records.ensures.read c.replay_records.ensures.newest
    (opens_at c.in-Ok.found.0 c.in-Ok.found.1 c.in-Ok-newest.slot c.in-Ok-begin.begun (g.D.Device.disk c.args.disk.now).told _ _ _ (g.D.Device.disk c.replay_records.new.disk).told c.in_ok-sync_all.ensures.reads c.in_ok-sync_all.ensures.quiet c.header.ensures.disk.told c.newest.ensures.disk.told
    c.in-Ok.ensures.heads c.in-Ok-newest.ensures.newest c.in-Ok-begin.ensures.begins m own)

pub returns-in-Err-clause-cause : goal.returns-in-Err-clause-cause
returns-in-Err-clause-cause g c = heads_stop c.in-Err.fault (g.D.Device.disk c.args.disk.now).told _ c.in_ok-sync_all.ensures.reads c.in-Err.ensures.heads

pub returns-clause-cause : goal.returns-clause-cause
returns-clause-cause g c =
    let e = c.header.ensures.disk.told in
    let f = c.newest.ensures.disk.told in
    replay_stops c.in-Ok.found.0 c.in-Ok.found.1 c.limit_of.result c.in-Ok-newest.slot c.in-Ok-begin.begun (g.D.Device.disk c.args.disk.now).told _ (reads_unread _ _ (f ∙ e) ∙ c.sync_all.ensures.reads)
    (header_at c.in-Ok.found.0 c.in-Ok.found.1 _ _ (f ∙ e) c.in-Ok.ensures.heads) (reads_back _ _ _ (sym f) c.in-Ok-newest.ensures.newest) c.in-Ok-begin.ensures.begins c.limit_of.ensures.is c.replay_records.result c.replay_records.ensures.replays c.replay_records.ensures.stops
