use Rattle.std.proofs.Common.{inl, refl, ap, subst}
use Rattle.dmn_outside.specs.Line.{LineView}
use Rattle.dmn_office.proofs.Opened.{own_between, unopened}
use Rattle.dmn_registry.specs.Machine.{at_rest}
use Rattle.dmn_serve.specs.Outcome.{Outcome}
use Rattle.dmn_serve.proofs.Opened.{opens_run, outcome_earlier, running_stops}
use Rattle.dmn_serve.proofs.Passing.{passing_quiet, passing_then}
use Rattle.dmn_serve.specs.Room.{Suffices}
use Rattle.dmn_serve.proofs.Ending.{ends_done, never_behind, never_opened}
use Rattle.dmn_serve.proofs.serving.serve.Goals as goal
use Rattle.dmn_status.specs.declared.status.Status.TheVariants as statuses
use Rattle.std.specs.Prelude.{Err}

pub returns-in_default-clause-outcome : goal.returns-in_default-clause-outcome
returns-in_default-clause-outcome g c = λ tells m known.
    (refl, own_between _ _ _ (at_rest m) (unopened (g.T.Device.time c.args.station.now) (g.T.Device.disk c.args.station.now) m (g.T.Device.past_is_over c.args.station.now) known))

pub returns-in-Err-NotJournal-clause-outcome : goal.returns-in-Err-NotJournal-clause-outcome
returns-in-Err-NotJournal-clause-outcome g c = λ tells m known. rw c.in-Err-NotJournal.field-0-is at (c.in-Err-NotJournal.ensures.recovers m known)

pub returns-in-Err-DiskFault-clause-outcome : goal.returns-in-Err-DiskFault-clause-outcome
returns-in-Err-DiskFault-clause-outcome g c = λ tells m known. inl (c.open.ensures.line, own_between _ _ _ (at_rest m) (c.open.ensures.moments m known))

pub returns-in-Err-Memory-clause-outcome : goal.returns-in-Err-Memory-clause-outcome
returns-in-Err-Memory-clause-outcome g c = λ tells m known. (c.open.ensures.line, own_between _ _ _ (at_rest m) (c.open.ensures.moments m known))

pub returns-clause-outcome : goal.returns-clause-outcome
returns-clause-outcome g c = λ tells m known.
    let stands = c.in-Ok-open.ensures.recovers m known in
    let later = subst (λ (v : LineView). Outcome c.run.result c.args.most g.T.Device.tells_moments (g.T.Device.time c.open.new.disk) (at_rest m) (g.T.Device.disk c.open.new.disk) (g.T.Device.disk c.run.new.station) v (g.T.Device.line c.run.new.station)) c.open.ensures.line (c.run.ensures.outcome tells (at_rest m) stands) in
    outcome_earlier c.run.result c.args.most g.T.Device.tells_moments _ _ (at_rest m) _ _ _ _ _ c.open.ensures.time (c.open.ensures.moments m known) c.run.ensures.status later

pub returns-clause-opens : goal.returns-clause-opens
returns-clause-opens g c = λ true_slot. opens_run c.run.result _ c.run.ensures.status (c.in-Ok-open.ensures.opens true_slot)

pub returns-clause-cause : goal.returns-clause-cause
returns-clause-cause g c = running_stops c.run.result _ c.run.ensures.status

pub returns-clause-passing : goal.returns-clause-passing
returns-clause-passing g c =
    passing_then (passing_quiet g.T.Device.tells_moments (g.T.Device.time c.args.station.now) (g.T.Device.time c.open.new.disk) (g.T.Device.line c.args.station.now) (g.T.Device.line c.open.new.disk) c.open.ensures.time c.open.ensures.line) c.run.ensures.passing

pub returns-in_default-clause-sure : goal.returns-in_default-clause-sure
returns-in_default-clause-sure g c = λ tells told m known enough. record { never = never_opened statuses.Memory _ _ _ _ (λ e. cc) (λ e. cc) refl refl; status_is = λ runs. absurd (runs refl) }

pub returns-in-Err-NotJournal-clause-sure : goal.returns-in-Err-NotJournal-clause-sure
returns-in-Err-NotJournal-clause-sure g c = λ tells told m known enough. absurd (rw c.in-Err-NotJournal.field-0-is at (c.in-Err-NotJournal.ensures.recovers m known))

pub returns-in-Err-DiskFault-clause-sure : goal.returns-in-Err-DiskFault-clause-sure
returns-in-Err-DiskFault-clause-sure g c = λ tells told m known enough. absurd ((c.in-Err-DiskFault.ensures.sure told).answer (ap Err c.in-Err-DiskFault.field-0-is))

pub returns-in-Err-Memory-clause-sure : goal.returns-in-Err-Memory-clause-sure
returns-in-Err-Memory-clause-sure g c = λ tells told m known enough. record { never = never_opened statuses.Memory _ _ _ _ (λ e. cc) (λ e. cc) c.open.ensures.line (c.in-Err-Memory.ensures.sure told).disk.faults; status_is = λ runs. absurd (runs refl) }

pub returns-clause-sure : goal.returns-clause-sure
returns-clause-sure g c = λ tells told m known enough.
    let kept = (c.in-Ok-open.ensures.sure told).disk in
    let stands = c.in-Ok-open.ensures.recovers m known in
    let still : Suffices (at_rest m) c.args.most (g.T.Device.room c.open.new.disk) (g.T.Device.disk c.open.new.disk).room (g.T.Device.line c.open.new.disk).talk.later = rw (c.open.ensures.room, kept.room, c.open.ensures.line) enough in
    let never = never_behind c.run.result _ _ _ _ _ _ c.open.ensures.line kept.faults (c.run.ensures.sure tells told (at_rest m) stands still) in
    record { never = never; status_is = λ runs. ends_done c.run.result never.line_runs never.disk_runs c.run.ensures.status }
