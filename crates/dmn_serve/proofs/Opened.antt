-- A run behind an opening.
use Rattle.std.proofs.Common.{inl, inr, ℕ, ◌≤◌, Bool, List}
use Rattle.dmn_outside.specs.Crashes.{LeavesOnly}
use Rattle.dmn_outside.specs.Disk.{DiskView, IfReads, Told}
use Rattle.dmn_outside.specs.Line.{LineView}
use Rattle.dmn_outside.proofs.Crash.{joins, widened}
use Rattle.dmn_desk.specs.Asked.{entry_by}
use Rattle.dmn_office.specs.Offices.{HasJournal}
use Rattle.dmn_office.proofs.Moving.{hand_leads}
use Rattle.dmn_registry.specs.Machine.{Machine}
use Rattle.dmn_registry.specs.Own.{IsBetween, IsOwn, Leads}
use Rattle.dmn_registry.proofs.Between.{between_self, between_to, leads_on, leads_self}
use Rattle.dmn_status.specs.declared.status.Status.{Status}
use Rattle.dmn_status.specs.declared.status.Status.TheVariants as statuses
use Rattle.dmn_serve.specs.Callers.{Visit}
use Rattle.dmn_serve.specs.Outcome.{Answered, IsRunning, OpensOn, Outcome, StopsFor}

-- a run that began later, behind calls that leave what is own of the first machine
run_earlier : (t later : ℕ) (before mid disk : DiskView) (m last : Machine) → t ≤ later → LeavesOnly t before mid (IsOwn m) → Leads m last → LeavesOnly later mid disk (IsBetween m last) → LeavesOnly t before disk (IsBetween m last)
run_earlier t later before mid disk m last le run leads images =
    joins t before mid disk (IsBetween m last) (widened t before mid _ _ run (λ image own. between_to m m last image leads (between_self m image own))) later (IsBetween m last) le images (λ image b. b)

answered_earlier : (t later : ℕ) (before mid disk : DiskView) (m : Machine) (visits : List Visit) (n last : Machine) → t ≤ later → LeavesOnly t before mid (IsOwn m) → Leads n last → Answered later mid disk m visits n last → Answered t before disk m visits n last
answered_earlier t later before mid disk m visits n last le run leads a = record {
  serves = a.serves;
  leads = a.leads;
  images = run_earlier t later before mid disk m last le run (leads_on m n last a.leads leads) a.images;
}

pub outcome_earlier : (status : Status) (most : ℕ) (stamped : Bool) (t later : ℕ) (m : Machine) (before mid disk : DiskView) (old new : LineView) → t ≤ later → LeavesOnly t before mid (IsOwn m) → IsRunning status → Outcome status most stamped later m mid disk old new → Outcome status most stamped t m before disk old new
outcome_earlier statuses.Done most stamped t later m before mid disk old new le run running o = (o.0, o.1, o.2, answered_earlier t later before mid disk m o.0 o.2 o.2 le run (leads_self o.2) o.3, o.4, o.5, o.6)
outcome_earlier statuses.LineFault most stamped t later m before mid disk old new le run running o = (o.0, o.1, o.2, answered_earlier t later before mid disk m o.0 o.2 o.2 le run (leads_self o.2) o.3, o.4, o.5, o.6)
outcome_earlier statuses.DiskFault most stamped t later m before mid disk old new le run running (inl o) = inl (o.0, run_earlier t later before mid disk m m le run (leads_self m) o.1)
outcome_earlier statuses.DiskFault most stamped t later m before mid disk old new le run running (inr o) = inr (o.0, o.1, o.2, o.3, o.4, answered_earlier t later before mid disk m o.0 o.3 o.4 le run (hand_leads o.3 (entry_by o.6.0) o.4 o.6.2) o.5, o.6, o.7, o.8)
outcome_earlier statuses.Memory most stamped t later m before mid disk old new le run running o = absurd running
outcome_earlier (statuses.NotJournal place) most stamped t later m before mid disk old new le run running o = absurd running
outcome_earlier statuses.Words most stamped t later m before mid disk old new le run running o = absurd running
outcome_earlier (statuses.StartForm place) most stamped t later m before mid disk old new le run running o = absurd running
outcome_earlier statuses.CutInput most stamped t later m before mid disk old new le run running o = absurd running
outcome_earlier statuses.Enough most stamped t later m before mid disk old new le run running o = absurd running
outcome_earlier statuses.AlreadyInit most stamped t later m before mid disk old new le run running o = absurd running

-- a run behind an opening is over a journal image
pub opens_run : (status : Status) (told : Told) → IsRunning status → IfReads told HasJournal → OpensOn status told
opens_run statuses.Done told running has = has
opens_run statuses.LineFault told running has = has
opens_run statuses.DiskFault told running has = tt
opens_run statuses.Memory told running has = absurd running
opens_run (statuses.NotJournal place) told running has = absurd running
opens_run statuses.Words told running has = absurd running
opens_run (statuses.StartForm place) told running has = absurd running
opens_run statuses.CutInput told running has = absurd running
opens_run statuses.Enough told running has = absurd running
opens_run statuses.AlreadyInit told running has = absurd running

pub running_stops : (status : Status) (told : Told) → IsRunning status → StopsFor status told
running_stops statuses.Done told running = tt
running_stops statuses.CutInput told running = tt
running_stops statuses.Enough told running = tt
running_stops statuses.LineFault told running = tt
running_stops statuses.DiskFault told running = tt
running_stops statuses.Memory told running = tt
running_stops (statuses.NotJournal place) told running = absurd running
running_stops statuses.Words told running = tt
running_stops (statuses.StartForm place) told running = tt
running_stops statuses.AlreadyInit told running = tt
