use Rattle.dmn_journal.proofs.Creating.{empty_1, empty_2, empty_3, empty_done}
use Rattle.dmn_journal.proofs.making.empty_files.Goals as goal

pub returns-in_err-cut_synced-clause-moments : goal.returns-in_err-cut_synced-clause-moments
returns-in_err-cut_synced-clause-moments g c = λ blank. let d = g.D.Device.disk c.args.disk.now in empty_1 _ 0 0 _ _ d d blank c.cut_synced.ensures.moments

pub returns-in_err-cut_synced-2-clause-moments : goal.returns-in_err-cut_synced-2-clause-moments
returns-in_err-cut_synced-2-clause-moments g c = λ blank. empty_2 _ _ 0 _ _ _ (g.D.Device.disk c.args.disk.now) blank c.cut_synced.ensures.moments c.in_ok-cut_synced.ensures.done c.cut_synced.ensures.time c.cut_synced-2.ensures.moments

pub returns-clause-moments : goal.returns-clause-moments
returns-clause-moments g c = λ blank.
    empty_3 _ _ _ _ _ _ _ blank c.cut_synced.ensures.moments c.in_ok-cut_synced.ensures.done c.cut_synced.ensures.time c.cut_synced-2.ensures.moments c.in_ok-cut_synced-2.ensures.done c.cut_synced-2.ensures.time c.cut_synced-3.ensures.moments

pub returns-clause-done : goal.returns-clause-done
returns-clause-done g c = empty_done c.cut_synced-3.result (g.D.Device.disk c.args.disk.now).told _ _ _ c.in_ok-cut_synced.ensures.done c.in_ok-cut_synced-2.ensures.done c.cut_synced-3.ensures.done
