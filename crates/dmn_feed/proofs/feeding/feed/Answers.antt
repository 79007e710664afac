use Rattle.std.proofs.Common.{◌∙◌, ap, refl, subst, sym}
use Rattle.dmn_outside.specs.Line.{LineView}
use Rattle.dmn_registry.specs.Machine.{at_rest}
use Rattle.dmn_feed.specs.Outcome.{Outcome}
use Rattle.dmn_feed.specs.Stamps.{SentInTurns}
use Rattle.dmn_office.proofs.Opened.{own_between}
use Rattle.dmn_feed.proofs.Opened.{broken_opening, opens_run, outcome_earlier, running_stops}
use Rattle.dmn_feed.proofs.Stamping.{turns_earlier, turns_none}
use Rattle.std.specs.Prelude.{Err}
use Rattle.dmn_frames.specs.Frames.{Cuts}
use Rattle.dmn_feed.specs.Room.{Suffices}
use Rattle.dmn_feed.proofs.Ending.{statuses_are_exact}
use Rattle.dmn_feed.proofs.feeding.feed.Goals as goal

pub returns-in-Err-NotJournal-clause-outcome : goal.returns-in-Err-NotJournal-clause-outcome
returns-in-Err-NotJournal-clause-outcome g c = λ tells m known. rw c.in-Err-NotJournal.field-0-is at (c.in-Err-NotJournal.ensures.recovers m known)

pub returns-in-Err-NotJournal-clause-in_turns : goal.returns-in-Err-NotJournal-clause-in_turns
returns-in-Err-NotJournal-clause-in_turns g c = λ tells stamped. subst (λ (v : LineView). SentInTurns (g.T.Device.time c.args.station.now) (g.T.Device.time c.open.new.disk) (g.T.Device.line c.args.station.now) v) (sym c.open.ensures.line) (turns_none _ _ _)

pub returns-in-Err-DiskFault-clause-outcome : goal.returns-in-Err-DiskFault-clause-outcome
returns-in-Err-DiskFault-clause-outcome g c = λ tells m known.
    broken_opening g.T.Device.tells_moments _ (at_rest m) _ _ _ _ (c.open.ensures.moments m known) c.open.ensures.line

pub returns-in-Err-DiskFault-clause-in_turns : goal.returns-in-Err-DiskFault-clause-in_turns
returns-in-Err-DiskFault-clause-in_turns g c = λ tells stamped. subst (λ (v : LineView). SentInTurns (g.T.Device.time c.args.station.now) (g.T.Device.time c.open.new.disk) (g.T.Device.line c.args.station.now) v) (sym c.open.ensures.line) (turns_none _ _ _)

pub returns-in-Err-Memory-clause-in_turns : goal.returns-in-Err-Memory-clause-in_turns
returns-in-Err-Memory-clause-in_turns g c = λ tells stamped. subst (λ (v : LineView). SentInTurns (g.T.Device.time c.args.station.now) (g.T.Device.time c.open.new.disk) (g.T.Device.line c.args.station.now) v) (sym c.open.ensures.line) (turns_none _ _ _)

pub returns-in-Ok-clause-outcome : goal.returns-in-Ok-clause-outcome
returns-in-Ok-clause-outcome g c = λ tells m known.
    let run = c.open.ensures.moments m known in
    let stands = c.in-Ok.ensures.recovers m known in
    let later = subst (λ (v : LineView). Outcome c.run.result g.T.Device.tells_moments (g.T.Device.time c.open.new.disk) (at_rest m) (g.T.Device.disk c.open.new.disk) (g.T.Device.disk c.run.new.station) v (g.T.Device.line c.run.new.station)) c.open.ensures.line (c.run.ensures.outcome tells (at_rest m) stands) in
    outcome_earlier c.run.result g.T.Device.tells_moments _ _ (at_rest m) _ _ _ _ _ c.open.ensures.time run c.run.ensures.status later

pub returns-in-Ok-clause-in_turns : goal.returns-in-Ok-clause-in_turns
returns-in-Ok-clause-in_turns g c = λ tells stamped.
    turns_earlier _ _ _ _ _ c.open.ensures.time (subst (λ (v : LineView). SentInTurns (g.T.Device.time c.open.new.disk) (g.T.Device.time c.run.new.station) v (g.T.Device.line c.run.new.station)) c.open.ensures.line (c.run.ensures.in_turns tells stamped))

pub returns-in-Err-NotJournal-clause-sure : goal.returns-in-Err-NotJournal-clause-sure
returns-in-Err-NotJournal-clause-sure g c = λ tells told m known enough. absurd (rw c.in-Err-NotJournal.field-0-is at (c.in-Err-NotJournal.ensures.recovers m known))

pub returns-in-Err-DiskFault-clause-sure : goal.returns-in-Err-DiskFault-clause-sure
returns-in-Err-DiskFault-clause-sure g c = λ tells told m known enough. absurd ((c.in-Err-DiskFault.ensures.sure told).answer (ap Err c.in-Err-DiskFault.field-0-is))

pub returns-in-Err-Memory-clause-sure : goal.returns-in-Err-Memory-clause-sure
returns-in-Err-Memory-clause-sure g c = λ tells told m known enough. record {
  never = record { line_runs = λ e. cc; disk_runs = λ e. cc; line_faults = ap (λ (v : LineView). v.faults) c.open.ensures.line; disk_faults = (c.in-Err-Memory.ensures.sure told).disk.faults };
  callers = ap (λ (v : LineView). v.caller_faults) c.open.ensures.line;
  status_is = λ runs frames left cut. absurd (runs refl);
}

pub returns-in-Ok-clause-sure : goal.returns-in-Ok-clause-sure
returns-in-Ok-clause-sure g c = λ tells told m known enough.
    let kept = (c.in-Ok.ensures.sure told).disk in
    let stands = c.in-Ok.ensures.recovers m known in
    let still : Suffices (at_rest m) (g.T.Device.room c.open.new.disk) (g.T.Device.disk c.open.new.disk).room (g.T.Device.line c.open.new.disk).talk.left = rw (c.open.ensures.room, kept.room, c.open.ensures.line) enough in
    let never = c.run.ensures.sure tells told (at_rest m) stands still in
    record {
      never = record {
        line_runs = never.line_runs;
        disk_runs = never.disk_runs;
        line_faults = never.line_faults ∙ ap (λ (v : LineView). v.faults) c.open.ensures.line;
        disk_faults = never.disk_faults ∙ kept.faults;
      };
      callers = c.run.ensures.later.callers ∙ ap (λ (v : LineView). v.caller_faults) c.open.ensures.line;
      status_is = λ runs frames left cut.
          let here : Cuts (g.T.Device.line c.open.new.disk).talk.left frames left = rw c.open.ensures.line cut in
          (statuses_are_exact c.run.result _ _ _ _ _ _ _ frames left (c.run.ensures.outcome tells (at_rest m) stands) here).1 never.line_runs never.disk_runs runs;
    }

pub returns-in-Ok-clause-opens : goal.returns-in-Ok-clause-opens
returns-in-Ok-clause-opens g c = λ true_slot. opens_run c.run.result _ c.run.ensures.status (c.in-Ok.ensures.opens true_slot)

pub returns-in-Err-Memory-clause-outcome : goal.returns-in-Err-Memory-clause-outcome
returns-in-Err-Memory-clause-outcome g c = λ tells m known. (c.open.ensures.line, own_between _ _ _ (at_rest m) (c.open.ensures.moments m known))

pub returns-in-Ok-clause-cause : goal.returns-in-Ok-clause-cause
returns-in-Ok-clause-cause g c = running_stops c.run.result _ c.run.ensures.status
