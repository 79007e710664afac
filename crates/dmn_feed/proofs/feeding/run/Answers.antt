use Rattle.std.proofs.Common.{inl, inr, ap, arith, refl, ◌∙◌}
use Rattle.dmn_outside.specs.Line.{Talk}
use Rattle.dmn_outside.proofs.Passing.{later_same, later_then}
use Rattle.dmn_feed.proofs.Ending.{took_cut, took_done, took_most}
use Rattle.dmn_feed.proofs.Fed.{answered_still, fed_broken, fed_more, fed_none, fed_part, rests_still, sent_fault, took_none, took_one}
use Rattle.dmn_frames.proofs.Spending.{spent_nothing, spent_then}
use Rattle.dmn_feed.proofs.Spending.{disk_same, disk_then, holds_next, snaps_next, never_lacks}
use Rattle.dmn_feed.proofs.Stamping.{no_turns, turns_all, turns_ended, turns_fault, turns_more, turns_part, turns_still}
use Rattle.dmn_feed.proofs.feeding.run.Goals as goal

pub run-init : goal.run-init
run-init g c = record {
  told = λ tells m stands. fed_none g.T.Device.tells_moments (g.T.Device.time c.args.station.now) m (g.T.Device.disk c.args.station.now) (g.T.Device.line c.args.station.now) c.args.office.now (g.T.Device.past_is_over c.args.station.now) stands;
  took = λ tells. took_none _;
  turns = λ tells stamped. no_turns _ _;
  room = λ tells told m stands enough. (spent_nothing _ _, disk_same _ _ refl);
  usable = c.requires.usable;
  rose = λ some. absurd (omega (arith, some));
  later = later_same _ _ _;
  disk_later = omega arith;
}

pub run-preserved : goal.run-preserved
run-preserved g c = record {
  told = λ tells m stands.
      let f = c.run.invariant.told tells m stands in
      let t = rw c.in-Ok-Answered.field-0-is at (c.in-Ok-Answered.ensures.turns tells) in
      fed_more _ c.run.counter _ _ m _ _ _ _ _ _ c.run.office _ c.run.invariant.later.time f t.0 t.1 t.2 t.3;
  took = λ tells.
      let t = rw c.in-Ok-Answered.field-0-is at (c.in-Ok-Answered.ensures.turns tells) in
      took_one c.run.counter _ _ _ t.2.frame (c.run.invariant.took tells) t.2.front;
  turns = λ tells stamped.
      let t = rw c.in-Ok-Answered.field-0-is at (c.in-Ok-Answered.ensures.turns tells) in
      turns_more _ _ _ _ _ _ t.0 (c.run.invariant.turns tells stamped) t.2.fits t.3.talk (c.in-Ok-Answered.ensures.in_turn stamped) (g.T.Device.even _ tells stamped) (g.T.Device.even _ tells stamped);
  room = λ tells told m stands enough.
      let r = c.run.invariant.room tells told m stands enough in
      let t = c.in-Ok-Answered.ensures.sure tells told (holds_next _ c.run.counter _ m _ _ _ _ c.run.office (c.run.invariant.told tells m stands) _ _ enough r.1) (snaps_next _ c.run.counter _ m _ _ _ _ c.run.office (c.run.invariant.told tells m stands) _ _ enough r.1) in
      (spent_then r.0 t.0, disk_then _ _ _ r.1 t.1);
  usable = c.in-Ok-Answered.ensures.usable;
  rose = λ some. omega (arith, c.in-Ok-Answered.ensures.time, c.run.invariant.later.time);
  later = later_then c.run.invariant.later c.in-Ok-Answered.ensures.later;
  disk_later = omega (arith, c.run.invariant.disk_later, c.in-Ok-Answered.ensures.disk_later);
}

pub returns-in-Ok-Ended-clause-exact : goal.returns-in-Ok-Ended-clause-exact
returns-in-Ok-Ended-clause-exact g c = λ tells frames left cut.
    let t = rw c.in-Ok-Ended.field-0-is at (c.in-Ok-Ended.ensures.turns tells) in
    took_done c.run.counter _ _ frames left (c.run.invariant.took tells) (omega arith) t.0 cut

pub returns-in-Ok-Cut-clause-exact : goal.returns-in-Ok-Cut-clause-exact
returns-in-Ok-Cut-clause-exact g c = λ tells frames left cut.
    let t = rw c.in-Ok-Cut.field-0-is at (c.in-Ok-Cut.ensures.turns tells) in
    took_cut c.run.counter _ _ frames left (c.run.invariant.took tells) (omega arith) t.0 t.1 cut

pub returns-clause-exact : goal.returns-clause-exact
returns-clause-exact g c = λ tells frames left cut. took_most c.run.counter _ _ frames left (c.run.invariant.took tells) (omega arith) cut

pub returns-in-Ok-Ended-clause-in_turns : goal.returns-in-Ok-Ended-clause-in_turns
returns-in-Ok-Ended-clause-in_turns g c = λ tells stamped.
    let t = rw c.in-Ok-Ended.field-0-is at (c.in-Ok-Ended.ensures.turns tells) in
    turns_ended _ _ _ _ _ _ (c.run.invariant.turns tells stamped) t.1 (c.in-Ok-Ended.ensures.in_turn stamped) (g.T.Device.even _ tells stamped) (g.T.Device.even _ tells stamped)

pub returns-in-Ok-Cut-clause-in_turns : goal.returns-in-Ok-Cut-clause-in_turns
returns-in-Ok-Cut-clause-in_turns g c = λ tells stamped.
    let t = rw c.in-Ok-Cut.field-0-is at (c.in-Ok-Cut.ensures.turns tells) in
    turns_ended _ _ _ _ _ _ (c.run.invariant.turns tells stamped) t.2 (c.in-Ok-Cut.ensures.in_turn stamped) (g.T.Device.even _ tells stamped) (g.T.Device.even _ tells stamped)

pub returns-clause-in_turns : goal.returns-clause-in_turns
returns-clause-in_turns g c = λ tells stamped. turns_all _ _ _ _ (c.run.invariant.turns tells stamped)

pub returns-in-Err-LineFault-clause-outcome : goal.returns-in-Err-LineFault-clause-outcome
returns-in-Err-LineFault-clause-outcome g c = λ tells m stands.
    let f = c.run.invariant.told tells m stands in
    let t = rw c.in-Err-LineFault.field-0-is at (c.in-Err-LineFault.ensures.turns tells) in
    elim t [
      | inl none ↦ (f.frames, (g.T.Device.line c.run.station).talk.left, f.bytes, f.moments, f.machine, answered_still _ c.run.counter _ m _ _ _ _ _ c.run.office f none.1, rests_still _ c.run.counter _ m _ _ _ _ _ c.run.office f none.1, omega (arith, f.counted), sent_fault _ _ f.bytes f.moments _ _ _ _ f.sent none.0 none.2)
      | inr part ↦ fed_part _ c.run.counter _ _ m _ _ _ _ _ _ c.run.office _ c.run.invariant.later.time f part.0 part.1 (omega arith) part.2 part.3
    ]

pub returns-in-Err-LineFault-clause-later : goal.returns-in-Err-LineFault-clause-later
returns-in-Err-LineFault-clause-later g c = later_then c.run.invariant.later c.in-Err-LineFault.ensures.later

pub returns-in-Err-LineFault-clause-in_turns : goal.returns-in-Err-LineFault-clause-in_turns
returns-in-Err-LineFault-clause-in_turns g c = λ tells stamped.
    let f = c.run.invariant.turns tells stamped in
    let b = c.in-Err-LineFault.ensures.in_turn stamped in
    let t = rw c.in-Err-LineFault.field-0-is at (c.in-Err-LineFault.ensures.turns tells) in
    elim t [
      | inl none ↦ turns_fault _ _ _ _ _ _ f none.0 b (g.T.Device.even _ tells stamped) (g.T.Device.even _ tells stamped)
      | inr part ↦ turns_part _ _ _ _ _ _ part.0 f part.2.fits part.3.part b (g.T.Device.even _ tells stamped) (g.T.Device.even _ tells stamped)
    ]

pub returns-in-Err-DiskFault-clause-outcome : goal.returns-in-Err-DiskFault-clause-outcome
returns-in-Err-DiskFault-clause-outcome g c = λ tells m stands.
    let f = c.run.invariant.told tells m stands in
    let t = rw c.in-Err-DiskFault.field-0-is at (c.in-Err-DiskFault.ensures.turns tells) in
    fed_broken _ c.run.counter _ _ m _ _ _ _ _ _ c.run.office c.serve_frame.new.office c.run.invariant.later.time f t.0 t.1 (omega arith) t.2 t.3 t.4 t.5

pub returns-in-Err-DiskFault-clause-in_turns : goal.returns-in-Err-DiskFault-clause-in_turns
returns-in-Err-DiskFault-clause-in_turns g c = λ tells stamped.
    let t = rw c.in-Err-DiskFault.field-0-is at (c.in-Err-DiskFault.ensures.turns tells) in
    turns_still _ _ _ _ _ _ (c.run.invariant.turns tells stamped) (ap (λ (k : Talk). k.sent) t.4) (c.in-Err-DiskFault.ensures.in_turn stamped) (g.T.Device.even _ tells stamped) (g.T.Device.even _ tells stamped)

pub returns-in-Ok-Ended-clause-sure : goal.returns-in-Ok-Ended-clause-sure
returns-in-Ok-Ended-clause-sure g c = λ tells told m stands enough.
    let r = c.run.invariant.room tells told m stands enough in
    let t = c.in-Ok-Ended.ensures.sure tells told (holds_next _ c.run.counter _ m _ _ _ _ c.run.office (c.run.invariant.told tells m stands) _ _ enough r.1) (snaps_next _ c.run.counter _ m _ _ _ _ c.run.office (c.run.invariant.told tells m stands) _ _ enough r.1) in
    record { line_runs = λ e. cc; disk_runs = λ e. cc; line_faults = (spent_then r.0 t.0).faults; disk_faults = t.1.faults ∙ r.1.faults }

pub returns-in-Ok-Cut-clause-sure : goal.returns-in-Ok-Cut-clause-sure
returns-in-Ok-Cut-clause-sure g c = λ tells told m stands enough.
    let r = c.run.invariant.room tells told m stands enough in
    let t = c.in-Ok-Cut.ensures.sure tells told (holds_next _ c.run.counter _ m _ _ _ _ c.run.office (c.run.invariant.told tells m stands) _ _ enough r.1) (snaps_next _ c.run.counter _ m _ _ _ _ c.run.office (c.run.invariant.told tells m stands) _ _ enough r.1) in
    record { line_runs = λ e. cc; disk_runs = λ e. cc; line_faults = (spent_then r.0 t.0).faults; disk_faults = t.1.faults ∙ r.1.faults }

pub returns-clause-sure : goal.returns-clause-sure
returns-clause-sure g c = λ tells told m stands enough.
    let r = c.run.invariant.room tells told m stands enough in
    record { line_runs = λ e. cc; disk_runs = λ e. cc; line_faults = r.0.faults; disk_faults = r.1.faults }

pub returns-in-Err-LineFault-clause-sure : goal.returns-in-Err-LineFault-clause-sure
returns-in-Err-LineFault-clause-sure g c = λ tells told m stands enough.
    let r = c.run.invariant.room tells told m stands enough in
    let f = c.run.invariant.told tells m stands in
    let t = rw c.in-Err-LineFault.field-0-is at (c.in-Err-LineFault.ensures.sure tells told (holds_next _ c.run.counter _ m _ _ _ _ c.run.office f _ _ enough r.1) (snaps_next _ c.run.counter _ m _ _ _ _ c.run.office f _ _ enough r.1)) in
    absurd (never_lacks _ c.run.counter _ m _ _ _ _ c.run.office f _ _ _ _ _ _ t.0 t.1 r.0 enough t.2 t.3)

pub returns-in-Err-DiskFault-clause-sure : goal.returns-in-Err-DiskFault-clause-sure
returns-in-Err-DiskFault-clause-sure g c = λ tells told m stands enough.
    let r = c.run.invariant.room tells told m stands enough in
    let f = c.run.invariant.told tells m stands in
    absurd (rw c.in-Err-DiskFault.field-0-is at (c.in-Err-DiskFault.ensures.sure tells told (holds_next _ c.run.counter _ m _ _ _ _ c.run.office f _ _ enough r.1) (snaps_next _ c.run.counter _ m _ _ _ _ c.run.office f _ _ enough r.1)))
