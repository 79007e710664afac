use Rattle.std.proofs.Common.{◌∙◌}
use Rattle.dmn_snapshot.proofs.Parts.{first_part, second_part, third_part, all_done, but_unread}
use Rattle.dmn_snapshot.proofs.laying.lay.Goals as goal

pub returns-in_err-close_gate-clause-moments : goal.returns-in_err-close_gate-clause-moments
returns-in_err-close_gate-clause-moments g c = λ still. let d = g.D.Device.disk c.args.disk.now in first_part c.args.file c.args.text.now _ 0 0 d _ d d (c.close_gate.ensures.moments still)

pub returns-in_err-write_synced-clause-moments : goal.returns-in_err-write_synced-clause-moments
returns-in_err-write_synced-clause-moments g c = λ still. let d = g.D.Device.disk c.args.disk.now in second_part c.args.file c.args.text.now _ _ 0 d _ _ d (c.close_gate.ensures.moments still) (c.in_ok-close_gate.ensures.done still) c.close_gate.ensures.others c.close_gate.ensures.time c.write_synced.ensures.moments

pub returns-in_err-write_synced-clause-others : goal.returns-in_err-write_synced-clause-others
returns-in_err-write_synced-clause-others g c = but_unread c.args.file _ _ c.write_synced.ensures.others ∙ c.close_gate.ensures.others

pub returns-clause-done : goal.returns-clause-done
returns-clause-done g c = λ still.
    let d = g.D.Device.disk c.args.disk.now in
    all_done c.args.file c.args.text.now (g.D.Device.time c.args.disk.now) 0 0 d (g.D.Device.disk c.close_gate.new.disk) (g.D.Device.disk c.write_synced.new.disk) (g.D.Device.disk c.write_synced-2.new.disk) (c.close_gate.ensures.moments still) c.write_synced-2.result (c.in_ok-close_gate.ensures.done still)
    c.in_ok-write_synced.ensures.done c.write_synced-2.ensures.done

pub returns-clause-moments : goal.returns-clause-moments
returns-clause-moments g c = λ still. third_part c.args.file c.args.text.now _ _ _ (g.D.Device.disk c.args.disk.now) _ _ _ (c.close_gate.ensures.moments still) (c.in_ok-close_gate.ensures.done still) c.close_gate.ensures.others c.close_gate.ensures.time c.write_synced.ensures.moments c.in_ok-write_synced.ensures.done c.write_synced.ensures.others c.write_synced.ensures.time c.write_synced-2.ensures.moments

pub returns-clause-others : goal.returns-clause-others
returns-clause-others g c = but_unread c.args.file _ _ c.write_synced-2.ensures.others ∙ but_unread c.args.file _ _ c.write_synced.ensures.others ∙ c.close_gate.ensures.others
