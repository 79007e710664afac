-- A run behind an opening.
use Rattle.std.proofs.Common.{◌≡◌, inl, inr, ℕ, ◌≤◌, Bool, List, [], refl, sym, ap, subst, arith}
use Rattle.std.proofs.lemmas.List.{append-nil}
use Rattle.std.proofs.lemmas.List.Elements.{All-nil}
use Rattle.dmn_outside.specs.Crashes.{LeavesOnly}
use Rattle.dmn_outside.specs.Disk.{DiskView, IfReads, Told}
use Rattle.dmn_outside.specs.Line.{LineView}
use Rattle.dmn_outside.proofs.Crash.{joins, widened}
use Rattle.dmn_desk.specs.Texts.{Fits}
use Rattle.dmn_frames.specs.Frames.{Frame}
use Rattle.dmn_office.specs.Offices.{HasJournal}
use Rattle.dmn_office.proofs.Opened.{own_between}
use Rattle.dmn_registry.specs.Machine.{Machine}
use Rattle.dmn_registry.specs.Own.{IsBetween, IsOwn, Leads}
use Rattle.dmn_registry.proofs.Between.{between_self, between_to, leads_on, leads_one, leads_self}
use Rattle.dmn_status.specs.declared.status.Status.{Status}
use Rattle.dmn_status.specs.declared.status.Status.TheVariants as statuses
use Rattle.dmn_feed.specs.Outcome.{Answered, InHand, IsRunning, OpensOn, Outcome, Sent, StopsFor, entry_of}

answered_earlier : (t later : ℕ) (before mid disk : DiskView) (m : Machine) (text : List ℕ) (frames : List Frame) (left bytes moments : List ℕ) (n last : Machine) → t ≤ later → LeavesOnly t before mid (IsOwn m) → Leads n last
    → Answered later mid disk m text frames left bytes moments n last → Answered t before disk m text frames left bytes moments n last
answered_earlier t later before mid disk m text frames left bytes moments n last le run leads a = record {
  front = a.front;
  answers = a.answers;
  serves = a.serves;
  fit = a.fit;
  bytes_are = a.bytes_are;
  leads = a.leads;
  images = joins t before mid disk (IsBetween m last) (widened t before mid _ _ run (λ image own. between_to m m last image (leads_on m n last a.leads leads) (between_self m image own))) later (IsBetween m last) le a.images (λ image b. b);
}

hand_leads : (left : List ℕ) (n last : Machine) → InHand left n last → Leads n last
hand_leads left n last (inl same) = subst (λ (k : Machine). Leads n k) (sym same) (leads_self n)
hand_leads left n last (inr (frame, after, front, accepts)) = leads_one n (entry_of frame) last accepts

pub outcome_earlier : (status : Status) (stamped : Bool) (t later : ℕ) (m : Machine) (before mid disk : DiskView) (old new : LineView) → t ≤ later → LeavesOnly t before mid (IsOwn m) → IsRunning status → Outcome status stamped later m mid disk old new → Outcome status stamped t m before disk old new
unfolding answered_earlier
outcome_earlier statuses.Done stamped t later m before mid disk old new le run running o = (o.0, o.1, o.2, o.3, answered_earlier t later before mid disk m old.talk.left o.0 [] o.1 o.2 o.3 o.3 le run (leads_self o.3) o.4, o.5, o.6, o.7)
outcome_earlier statuses.CutInput stamped t later m before mid disk old new le run running o = (o.0, o.1, o.2, o.3, o.4, answered_earlier t later before mid disk m old.talk.left o.0 o.1 o.2 o.3 o.4 o.4 le run (leads_self o.4) o.5, o.6, o.7, o.8, o.9, o.10)
outcome_earlier statuses.Enough stamped t later m before mid disk old new le run running o = (o.0, o.1, o.2, o.3, o.4, answered_earlier t later before mid disk m old.talk.left o.0 o.1 o.2 o.3 o.4 o.4 le run (leads_self o.4) o.5, o.6, o.7, o.8)
outcome_earlier statuses.LineFault stamped t later m before mid disk old new le run running o = (o.0, o.1, o.2, o.3, o.4, answered_earlier t later before mid disk m old.talk.left o.0 o.1 o.2 o.3 o.4 o.4 le run (leads_self o.4) o.5, o.6, o.7, o.8)
outcome_earlier statuses.DiskFault stamped t later m before mid disk old new le run running o = (o.0, o.1, o.2, o.3, o.4, o.5, answered_earlier t later before mid disk m old.talk.left o.0 o.1 o.2 o.3 o.4 o.5 le run (hand_leads o.1 o.4 o.5 o.7) o.6, o.7, o.8, o.9)
outcome_earlier statuses.Memory stamped t later m before mid disk old new le run running o = absurd running
outcome_earlier (statuses.NotJournal place) stamped t later m before mid disk old new le run running o = absurd running
outcome_earlier statuses.Words stamped t later m before mid disk old new le run running o = absurd running
outcome_earlier (statuses.StartForm place) stamped t later m before mid disk old new le run running o = absurd running
outcome_earlier statuses.AlreadyInit stamped t later m before mid disk old new le run running o = absurd running

-- the disk broke while it was opened
pub broken_opening : (stamped : Bool) (t : ℕ) (m : Machine) (before disk : DiskView) (old new : LineView) → LeavesOnly t before disk (IsOwn m) → new ≡ old → Outcome statuses.DiskFault stamped t m before disk old new
broken_opening stamped t m before disk old new run same = (
  [],
  old.talk.left,
  [],
  [],
  m,
  m,
  record { front = refl; answers = []; serves = (refl, refl); fit = All-nil Fits; bytes_are = refl; leads = leads_self m; images = own_between t before disk m run },
  inl refl,
  omega arith,
  subst (λ (v : LineView). Sent stamped v.talk.left [] [] old v) (sym same) (record { talk = ap (λ (l : List ℕ). record old.talk { sent = l }) (sym (append-nil old.talk.sent)); stamps = λ _. ap (λ (l : List ℕ). record old.moments { sent = l }) (sym (append-nil old.moments.sent)) }),
)

-- a run behind an opening is over a journal image
pub opens_run : (status : Status) (told : Told) → IsRunning status → IfReads told HasJournal → OpensOn status told
opens_run statuses.Done told running has = has
opens_run statuses.CutInput told running has = has
opens_run statuses.Enough told running has = has
opens_run statuses.LineFault told running has = has
opens_run statuses.DiskFault told running has = tt
opens_run statuses.Memory told running has = absurd running
opens_run (statuses.NotJournal place) told running has = absurd running
opens_run statuses.Words told running has = absurd running
opens_run (statuses.StartForm place) told running has = absurd running
opens_run statuses.AlreadyInit told running has = absurd running

pub running_stops : (status : Status) (told : Told) → IsRunning status → StopsFor status told
running_stops statuses.Done told running = tt
running_stops statuses.CutInput told running = tt
running_stops statuses.Enough told running = tt
running_stops statuses.LineFault told running = tt
running_stops statuses.DiskFault told running = tt
running_stops statuses.Memory told running = tt
running_stops (statuses.NotJournal place) told running = absurd running
running_stops statuses.Words told running = tt
running_stops (statuses.StartForm place) told running = tt
running_stops statuses.AlreadyInit told running = tt
