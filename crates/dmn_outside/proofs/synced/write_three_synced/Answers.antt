use Rattle.std.proofs.Common.{◌∙◌, ◌+◌, ap, length, refl, subst}
use Rattle.dmn_outside.specs.Changes.{after_three, after_write}
use Rattle.dmn_outside.specs.Disk.{Told, MayLeave}
use Rattle.dmn_outside.proofs.Crash.{started, writes_on, tears_on, syncs, three_keep, two_keep, one_keeps, but_does, but_may, but_syncs}
use Rattle.dmn_outside.proofs.synced.write_three_synced.Goals as goal

pub returns-in_err-write_at-clause-moments : goal.returns-in_err-write_at-clause-moments
returns-in_err-write_at-clause-moments g c =
    let a = c.args in
    let d = g.D.Device.disk a.disk.now in
    let start = started _ d (MayLeave (after_three a.file a.at a.first.now a.second.now a.third.now d.told)) (g.D.Device.past_is_over a.disk.now) (three_keep a.file a.at a.first.now a.second.now a.third.now d.told) in
    tears_on _ _ _ _ _ start _ a.file a.at a.first.now d.told refl (two_keep a.file a.at a.first.now a.second.now a.third.now d.told) c.in_err-write_at.ensures.failed

pub returns-in_err-write_at-2-clause-moments : goal.returns-in_err-write_at-2-clause-moments
returns-in_err-write_at-2-clause-moments g c =
    let a = c.args in
    let d = g.D.Device.disk a.disk.now in
    let start = started _ d (MayLeave (after_three a.file a.at a.first.now a.second.now a.third.now d.told)) (g.D.Device.past_is_over a.disk.now) (three_keep a.file a.at a.first.now a.second.now a.third.now d.told) in
    let one = writes_on _ _ _ _ _ start _ a.file a.at a.first.now d.told refl (two_keep a.file a.at a.first.now a.second.now a.third.now d.told) c.in_ok-write_at.ensures.disk in
    tears_on _ _ _ _ _ one _ a.file (a.at + length a.first.now) a.second.now (after_write a.file a.at a.first.now d.told) c.in_ok-write_at.ensures.disk.told (one_keeps a.file a.at a.first.now a.second.now a.third.now d.told) c.in_err-write_at-2.ensures.failed

pub returns-in_err-write_at-3-clause-moments : goal.returns-in_err-write_at-3-clause-moments
returns-in_err-write_at-3-clause-moments g c =
    let a = c.args in
    let d = g.D.Device.disk a.disk.now in
    let start = started _ d (MayLeave (after_three a.file a.at a.first.now a.second.now a.third.now d.told)) (g.D.Device.past_is_over a.disk.now) (three_keep a.file a.at a.first.now a.second.now a.third.now d.told) in
    let one = writes_on _ _ _ _ _ start _ a.file a.at a.first.now d.told refl (two_keep a.file a.at a.first.now a.second.now a.third.now d.told) c.in_ok-write_at.ensures.disk in
    let two = writes_on _ _ _ _ _ one _ a.file (a.at + length a.first.now) a.second.now (after_write a.file a.at a.first.now d.told) c.in_ok-write_at.ensures.disk.told (one_keeps a.file a.at a.first.now a.second.now a.third.now d.told) c.in_ok-write_at-2.ensures.disk in
    let told = c.in_ok-write_at-2.ensures.disk.told ∙ ap (λ (e : Told). after_write a.file (a.at + length a.first.now) a.second.now e) c.in_ok-write_at.ensures.disk.told in
    tears_on _ _ _ _ _ two _ a.file (a.at + length a.first.now + length a.second.now) a.third.now _ told (λ image now. now) c.in_err-write_at-3.ensures.failed

pub returns-clause-moments : goal.returns-clause-moments
returns-clause-moments g c =
    let a = c.args in
    let d = g.D.Device.disk a.disk.now in
    let start = started _ d (MayLeave (after_three a.file a.at a.first.now a.second.now a.third.now d.told)) (g.D.Device.past_is_over a.disk.now) (three_keep a.file a.at a.first.now a.second.now a.third.now d.told) in
    let one = writes_on _ _ _ _ _ start _ a.file a.at a.first.now d.told refl (two_keep a.file a.at a.first.now a.second.now a.third.now d.told) c.in_ok-write_at.ensures.disk in
    let two = writes_on _ _ _ _ _ one _ a.file (a.at + length a.first.now) a.second.now (after_write a.file a.at a.first.now d.told) c.in_ok-write_at.ensures.disk.told (one_keeps a.file a.at a.first.now a.second.now a.third.now d.told) c.in_ok-write_at-2.ensures.disk in
    let told = c.in_ok-write_at-2.ensures.disk.told ∙ ap (λ (e : Told). after_write a.file (a.at + length a.first.now) a.second.now e) c.in_ok-write_at.ensures.disk.told in
    let three = writes_on _ _ _ _ _ two _ a.file (a.at + length a.first.now + length a.second.now) a.third.now _ told (λ image now. now) c.in_ok-write_at-3.ensures.disk in
    let all = c.in_ok-write_at-3.ensures.disk.told ∙ ap (λ (e : Told). after_write a.file (a.at + length a.first.now + length a.second.now) a.third.now e) told in
    syncs _ _ a.file c.sync.result _ _ _ _ three c.sync.ensures.disk c.sync.ensures.failed (g.D.Device.reads_are_left c.write_at-3.new.self) (λ image now. subst (λ (e : Told). MayLeave e image) all now)

pub returns-in_err-write_at-clause-others : goal.returns-in_err-write_at-clause-others
returns-in_err-write_at-clause-others g c = but_may _ c.args.file _ _ _ _ c.in_err-write_at.ensures.failed

pub returns-in_err-write_at-2-clause-others : goal.returns-in_err-write_at-2-clause-others
returns-in_err-write_at-2-clause-others g c =
    but_may _ c.args.file _ _ _ _ c.in_err-write_at-2.ensures.failed ∙ but_does _ c.args.file _ _ _ _ c.in_ok-write_at.ensures.disk

pub returns-in_err-write_at-3-clause-others : goal.returns-in_err-write_at-3-clause-others
returns-in_err-write_at-3-clause-others g c =
    but_may _ c.args.file _ _ _ _ c.in_err-write_at-3.ensures.failed ∙ but_does _ c.args.file _ _ _ _ c.in_ok-write_at-2.ensures.disk ∙ but_does _ c.args.file _ _ _ _ c.in_ok-write_at.ensures.disk

pub returns-clause-others : goal.returns-clause-others
returns-clause-others g c =
    but_syncs _ c.args.file c.sync.result _ _ c.sync.ensures.disk c.sync.ensures.failed
    ∙ but_does _ c.args.file _ _ _ _ c.in_ok-write_at-3.ensures.disk
    ∙ but_does _ c.args.file _ _ _ _ c.in_ok-write_at-2.ensures.disk
    ∙ but_does _ c.args.file _ _ _ _ c.in_ok-write_at.ensures.disk
