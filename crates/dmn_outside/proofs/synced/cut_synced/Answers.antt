use Rattle.std.proofs.Common.{◌∙◌, subst}
use Rattle.dmn_outside.specs.Changes.{after_cut}
use Rattle.dmn_outside.specs.Disk.{Told, MayLeave}
use Rattle.dmn_outside.proofs.Crash.{started, goes_on, may_go_on, syncs, cut_keeps, cut_torn_is_cut, but_does, but_may, but_syncs}
use Rattle.dmn_outside.proofs.synced.cut_synced.Goals as goal

pub returns-in_err-cut-clause-moments : goal.returns-in_err-cut-clause-moments
returns-in_err-cut-clause-moments g c =
    let d = g.D.Device.disk c.args.disk.now in
    let start = started _ d (MayLeave (after_cut c.args.file c.args.len d.told)) (g.D.Device.past_is_over c.args.disk.now) (cut_keeps c.args.file c.args.len d.told) in
    may_go_on _ _ _ _ _ start _ _ c.in_err-cut.ensures.failed (cut_torn_is_cut c.args.file c.args.len d.told)

pub returns-clause-moments : goal.returns-clause-moments
returns-clause-moments g c =
    let d = g.D.Device.disk c.args.disk.now in
    let P = MayLeave (after_cut c.args.file c.args.len d.told) in
    let start = started _ d P (g.D.Device.past_is_over c.args.disk.now) (cut_keeps c.args.file c.args.len d.told) in
    let wrote = c.in_ok-cut.ensures.disk in
    let written = goes_on _ _ _ _ _ start _ _ wrote (λ image now. now) in
    let reads = g.D.Device.reads_are_left c.cut.new.self in
    syncs _ _ c.args.file c.sync.result _ _ _ P written c.sync.ensures.disk c.sync.ensures.failed reads (λ image now. subst (λ (e : Told). MayLeave e image) {y = after_cut c.args.file c.args.len d.told} wrote.told now)

pub returns-in_err-cut-clause-others : goal.returns-in_err-cut-clause-others
returns-in_err-cut-clause-others g c = but_may _ c.args.file _ _ _ _ c.in_err-cut.ensures.failed

pub returns-clause-others : goal.returns-clause-others
returns-clause-others g c =
    but_syncs _ c.args.file c.sync.result _ _ c.sync.ensures.disk c.sync.ensures.failed ∙ but_does _ c.args.file _ _ _ _ c.in_ok-cut.ensures.disk
