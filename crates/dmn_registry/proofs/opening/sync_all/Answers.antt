use Rattle.std.proofs.Common.{◌∙◌}
use Rattle.dmn_outside.specs.Disk.{MayLeave}
use Rattle.dmn_outside.proofs.Crash.{started, syncs}
use Rattle.dmn_registry.proofs.Syncing.{back, quiet, sync_bytes, sync_reads, told_of}
use Rattle.dmn_registry.proofs.opening.sync_all.Goals as goal

pub returns-in_err-sync-clause-moments : goal.returns-in_err-sync-clause-moments
returns-in_err-sync-clause-moments g c =
    let d0 = g.D.Device.disk c.args.disk.now in
    let run0 = started (g.D.Device.time c.args.disk.now) d0 (MayLeave d0.told) (g.D.Device.past_is_over c.args.disk.now) (λ image now. now) in
    syncs _ _ 0 c.sync.result d0 d0 _ (MayLeave d0.told) run0 c.sync.ensures.disk c.sync.ensures.failed (g.D.Device.reads_are_left c.args.disk.now) (λ image now. now)

pub returns-in_err-sync-2-clause-reads : goal.returns-in_err-sync-2-clause-reads
returns-in_err-sync-2-clause-reads g c = sync_reads _ 1 c.sync-2.result _ _ c.sync-2.ensures.disk c.sync-2.ensures.failed ∙ sync_reads _ 0 c.sync.result _ _ c.sync.ensures.disk c.sync.ensures.failed

pub returns-in_err-sync-2-clause-read : goal.returns-in_err-sync-2-clause-read
returns-in_err-sync-2-clause-read g c = sync_bytes _ 1 c.sync-2.result _ _ c.sync-2.ensures.disk c.sync-2.ensures.failed ∙ sync_bytes _ 0 c.sync.result _ _ c.sync.ensures.disk c.sync.ensures.failed

pub returns-in_err-sync-2-clause-moments : goal.returns-in_err-sync-2-clause-moments
returns-in_err-sync-2-clause-moments g c =
    let d0 = g.D.Device.disk c.args.disk.now in
    let run0 = started (g.D.Device.time c.args.disk.now) d0 (MayLeave d0.told) (g.D.Device.past_is_over c.args.disk.now) (λ image now. now) in
    let run1 = syncs _ _ 0 c.sync.result d0 d0 _ (MayLeave d0.told) run0 c.sync.ensures.disk c.sync.ensures.failed (g.D.Device.reads_are_left c.args.disk.now) (λ image now. now) in
    syncs _ _ 1 c.sync-2.result d0 _ _ (MayLeave d0.told) run1 c.sync-2.ensures.disk c.sync-2.ensures.failed (g.D.Device.reads_are_left c.sync.new.self)
    (back _ 0 c.sync.result d0 _ c.sync.ensures.disk c.sync.ensures.failed (g.D.Device.reads_are_left c.args.disk.now))

pub returns-clause-reads : goal.returns-clause-reads
returns-clause-reads g c = sync_reads _ 2 c.sync-3.result _ _ c.sync-3.ensures.disk c.sync-3.ensures.failed ∙ sync_reads _ 1 c.sync-2.result _ _ c.sync-2.ensures.disk c.sync-2.ensures.failed ∙ sync_reads _ 0 c.sync.result _ _ c.sync.ensures.disk c.sync.ensures.failed

pub returns-clause-read : goal.returns-clause-read
returns-clause-read g c = sync_bytes _ 2 c.sync-3.result _ _ c.sync-3.ensures.disk c.sync-3.ensures.failed ∙ sync_bytes _ 1 c.sync-2.result _ _ c.sync-2.ensures.disk c.sync-2.ensures.failed ∙ sync_bytes _ 0 c.sync.result _ _ c.sync.ensures.disk c.sync.ensures.failed

pub returns-clause-quiet : goal.returns-clause-quiet
returns-clause-quiet g c = quiet c.sync-3.result (g.D.Device.disk c.args.disk.now).told _ _ _ c.in_ok-sync.ensures.disk.told c.in_ok-sync-2.ensures.disk.told (told_of _ c.sync-3.result _ _ c.sync-3.ensures.disk)

pub returns-clause-moments : goal.returns-clause-moments
returns-clause-moments g c =
    let d0 = g.D.Device.disk c.args.disk.now in
    let run0 = started (g.D.Device.time c.args.disk.now) d0 (MayLeave d0.told) (g.D.Device.past_is_over c.args.disk.now) (λ image now. now) in
    let run1 = syncs _ _ 0 c.sync.result d0 d0 _ (MayLeave d0.told) run0 c.sync.ensures.disk c.sync.ensures.failed (g.D.Device.reads_are_left c.args.disk.now) (λ image now. now) in
    let run2 = syncs _ _ 1 c.sync-2.result d0 _ _ (MayLeave d0.told) run1 c.sync-2.ensures.disk c.sync-2.ensures.failed (g.D.Device.reads_are_left c.sync.new.self)
    (back _ 0 c.sync.result d0 _ c.sync.ensures.disk c.sync.ensures.failed (g.D.Device.reads_are_left c.args.disk.now)) in
    syncs _ _ 2 c.sync-3.result d0 _ _ (MayLeave d0.told) run2 c.sync-3.ensures.disk c.sync-3.ensures.failed (g.D.Device.reads_are_left c.sync-2.new.self)
    (λ image now. back _ 0 c.sync.result d0 _ c.sync.ensures.disk c.sync.ensures.failed (g.D.Device.reads_are_left c.args.disk.now) image
    (back _ 1 c.sync-2.result _ _ c.sync-2.ensures.disk c.sync-2.ensures.failed (g.D.Device.reads_are_left c.sync.new.self) image now))
