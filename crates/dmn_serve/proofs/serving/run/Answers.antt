use Rattle.std.proofs.Common.{arith, inr, refl, ◌∙◌}
use Rattle.dmn_serve.proofs.Passing.{passing_start, passing_then}
use Rattle.dmn_serve.proofs.Running.{passed_more, passed_none, served_broken, served_more, served_none}
use Rattle.dmn_serve.proofs.Spending.{all_whole, place_next, spent_more, spent_none, snaps_next}
use Rattle.dmn_serve.proofs.serving.run.Goals as goal

pub run-init : goal.run-init
run-init g c = record {
  told = λ tells m stands. served_none g.T.Device.tells_moments (g.T.Device.time c.args.station.now) m (g.T.Device.disk c.args.station.now) (g.T.Device.line c.args.station.now) c.args.office.now (g.T.Device.past_is_over c.args.station.now) stands;
  passed = λ tells. passed_none _;
  room = λ tells told m stands enough. spent_none _ _ _;
  usable = c.requires.usable;
  passing = passing_start _ _ _;
  disk_later = omega arith;
}

pub run-preserved : goal.run-preserved
run-preserved g c = record {
  told = λ tells m stands.
      let f = c.run.invariant.told tells m stands in
      let t = rw c.in-Ok-Served.field-0-is at (c.in-Ok-Served.ensures.turns tells) in
      served_more _ c.run.counter _ _ m _ _ _ _ _ _ c.run.office _ c.run.invariant.passing.time f c.run.invariant.passing.faults c.in-Ok-Served.ensures.passing.faults t.0 t.1 t.3 t.2 t.4 t.5;
  passed = λ tells.
      let t = rw c.in-Ok-Served.field-0-is at (c.in-Ok-Served.ensures.turns tells) in
      passed_more g.T.Device.tells_moments c.run.counter _ _ _ t.0 t.1 (c.run.invariant.passed tells) t.2;
  room = λ tells told m stands enough.
      let r = c.run.invariant.room tells told m stands enough in
      let f = c.run.invariant.told tells m stands in
      let place = place_next _ c.run.counter _ m _ _ _ _ c.run.office f _ _ c.args.most _ enough (omega arith) r refl in
      let snaps = snaps_next _ c.run.counter _ m _ _ _ _ c.run.office f _ _ c.args.most _ enough (omega arith) r refl in
      let t = rw c.in-Ok-Served.field-0-is at (c.in-Ok-Served.ensures.turns tells) in
      let sure = rw c.in-Ok-Served.field-0-is at (c.in-Ok-Served.ensures.sure tells told place snaps) in
      spent_more _ c.run.counter _ m _ _ _ _ c.run.office f _ _ c.args.most _ enough (omega arith) r _ _ _ t.0 t.1 t.2 sure;
  usable = c.in-Ok-Served.ensures.usable;
  passing = passing_then c.run.invariant.passing c.in-Ok-Served.ensures.passing;
  disk_later = omega (arith, c.run.invariant.disk_later, c.in-Ok-Served.ensures.disk_later);
}

pub returns-in-Ok-Ended-clause-passing : goal.returns-in-Ok-Ended-clause-passing
returns-in-Ok-Ended-clause-passing g c = passing_then c.run.invariant.passing c.in-Ok-Ended.ensures.passing

pub returns-in-Err-CallerFault-clause-passing : goal.returns-in-Err-CallerFault-clause-passing
returns-in-Err-CallerFault-clause-passing g c = passing_then c.run.invariant.passing c.in-Err-CallerFault.ensures.passing

pub returns-in-Err-DiskFault-clause-passing : goal.returns-in-Err-DiskFault-clause-passing
returns-in-Err-DiskFault-clause-passing g c = passing_then c.run.invariant.passing c.in-Err-DiskFault.ensures.passing

pub returns-in-Err-DiskFault-clause-outcome : goal.returns-in-Err-DiskFault-clause-outcome
returns-in-Err-DiskFault-clause-outcome g c = λ tells m stands.
    let f = c.run.invariant.told tells m stands in
    let t = rw c.in-Err-DiskFault.field-0-is at (c.in-Err-DiskFault.ensures.turns tells) in
    inr (served_broken _ c.run.counter _ _ m _ _ _ _ _ _ c.run.office c.serve_next.new.office c.run.invariant.passing.time f c.run.invariant.passing.faults c.in-Err-DiskFault.ensures.passing.faults t.0 t.1 c.args.most (omega arith) t.2 t.3)

pub returns-in-Ok-Ended-clause-sure : goal.returns-in-Ok-Ended-clause-sure
returns-in-Ok-Ended-clause-sure g c = λ tells told m stands enough.
    let r = c.run.invariant.room tells told m stands enough in
    let f = c.run.invariant.told tells m stands in
    let place = place_next _ c.run.counter _ m _ _ _ _ c.run.office f _ _ c.args.most _ enough (omega arith) r refl in
    let snaps = snaps_next _ c.run.counter _ m _ _ _ _ c.run.office f _ _ c.args.most _ enough (omega arith) r refl in
    let t = rw c.in-Ok-Ended.field-0-is at (c.in-Ok-Ended.ensures.turns tells) in
    let sure = rw c.in-Ok-Ended.field-0-is at (c.in-Ok-Ended.ensures.sure tells told place snaps) in
    record {
      line_runs = λ e. cc;
      disk_runs = λ e. cc;
      line_faults = sure.1.faults ∙ r.faults;
      caller_faults = sure.1.callers ∙ r.callers;
      disk_faults = sure.0.faults ∙ r.disk.faults;
      whole = all_whole _ _ (g.T.Device.line c.args.station.now) (g.T.Device.line c.run.station) (g.T.Device.line c.serve_next.new.station) _ _ r t.1;
    }

pub returns-in-Err-CallerFault-clause-sure : goal.returns-in-Err-CallerFault-clause-sure
returns-in-Err-CallerFault-clause-sure g c = λ tells told m stands enough.
    let r = c.run.invariant.room tells told m stands enough in
    let place = place_next _ c.run.counter _ m _ _ _ _ c.run.office (c.run.invariant.told tells m stands) _ _ c.args.most _ enough (omega arith) r refl in
    let snaps = snaps_next _ c.run.counter _ m _ _ _ _ c.run.office (c.run.invariant.told tells m stands) _ _ c.args.most _ enough (omega arith) r refl in
    absurd (c.in-Err-CallerFault.ensures.sure tells told place snaps)

pub returns-in-Err-DiskFault-clause-sure : goal.returns-in-Err-DiskFault-clause-sure
returns-in-Err-DiskFault-clause-sure g c = λ tells told m stands enough.
    let r = c.run.invariant.room tells told m stands enough in
    let place = place_next _ c.run.counter _ m _ _ _ _ c.run.office (c.run.invariant.told tells m stands) _ _ c.args.most _ enough (omega arith) r refl in
    let snaps = snaps_next _ c.run.counter _ m _ _ _ _ c.run.office (c.run.invariant.told tells m stands) _ _ c.args.most _ enough (omega arith) r refl in
    absurd (c.in-Err-DiskFault.ensures.sure tells told place snaps)

pub returns-clause-sure : goal.returns-clause-sure
returns-clause-sure g c = λ tells told m stands enough.
    let r = c.run.invariant.room tells told m stands enough in
    record {
      line_runs = λ e. cc;
      disk_runs = λ e. cc;
      line_faults = r.faults;
      caller_faults = r.callers;
      disk_faults = r.disk.faults;
      whole = all_whole _ _ (g.T.Device.line c.args.station.now) (g.T.Device.line c.run.station) (g.T.Device.line c.run.station) _ _ r refl;
    }
