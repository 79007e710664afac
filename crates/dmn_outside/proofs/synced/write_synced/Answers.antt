use Rattle.std.proofs.Common.{◌∙◌, subst}
use Rattle.dmn_outside.specs.Changes.{after_write}
use Rattle.dmn_outside.specs.Disk.{Told, MayLeave}
use Rattle.dmn_outside.proofs.Crash.{started, goes_on, may_go_on, syncs, write_keeps, torn_is_write, but_does, but_may, but_syncs}
use Rattle.dmn_outside.proofs.synced.write_synced.Goals as goal

pub returns-in_err-write_at-clause-moments : goal.returns-in_err-write_at-clause-moments
returns-in_err-write_at-clause-moments g c =
    let d = g.D.Device.disk c.args.disk.now in
    let start = started _ d (MayLeave (after_write c.args.file c.args.at c.args.bytes.now d.told)) (g.D.Device.past_is_over c.args.disk.now) (write_keeps c.args.file c.args.at c.args.bytes.now d.told) in
    may_go_on _ _ _ _ _ start _ _ c.in_err-write_at.ensures.failed (torn_is_write c.args.file c.args.at c.args.bytes.now d.told)

pub returns-clause-moments : goal.returns-clause-moments
returns-clause-moments g c =
    let d = g.D.Device.disk c.args.disk.now in
    let P = MayLeave (after_write c.args.file c.args.at c.args.bytes.now d.told) in
    let start = started _ d P (g.D.Device.past_is_over c.args.disk.now) (write_keeps c.args.file c.args.at c.args.bytes.now d.told) in
    let wrote = c.in_ok-write_at.ensures.disk in
    let written = goes_on _ _ _ _ _ start _ _ wrote (λ image now. now) in
    let reads = g.D.Device.reads_are_left c.write_at.new.self in
    syncs _ _ c.args.file c.sync.result _ _ _ P written c.sync.ensures.disk c.sync.ensures.failed reads (λ image now. subst (λ (e : Told). MayLeave e image) {y = after_write c.args.file c.args.at c.args.bytes.now d.told} wrote.told now)

pub returns-in_err-write_at-clause-others : goal.returns-in_err-write_at-clause-others
returns-in_err-write_at-clause-others g c = but_may _ c.args.file _ _ _ _ c.in_err-write_at.ensures.failed

pub returns-clause-others : goal.returns-clause-others
returns-clause-others g c =
    but_syncs _ c.args.file c.sync.result _ _ c.sync.ensures.disk c.sync.ensures.failed ∙ but_does _ c.args.file _ _ _ _ c.in_ok-write_at.ensures.disk
