-- What a run over a station that tells its bytes has sent, and what a crash may leave since its start, by its status.
use Rattle.std.specs.Prelude.{◌≡◌, ◌⊎◌, ℕ, ◌<◌, ◌≤◌, Bool, true, List, [], ◌∷◌, ◌++◌, length, drop, map}
use Rattle.std.specs.List.{All}
use Rattle.dmn_outside.specs.Counts.{Rose}
use Rattle.dmn_outside.specs.Crashes.{LeavesOnly, Rests}
use Rattle.dmn_outside.specs.Disk.{DiskView, IfReads, Told}
use Rattle.dmn_outside.specs.Line.{LineView, Moments, Served, Talk}
use Rattle.dmn_desk.specs.declared.request.Request.{Request}
use Rattle.dmn_desk.specs.Asked.{entry_by}
use Rattle.dmn_http.specs.Exchanges.{Exchanges, asks}
use Rattle.dmn_office.specs.Lasting.{IsLasting}
use Rattle.dmn_office.specs.Offices.{HasJournal, InHand}
use Rattle.dmn_registry.specs.Departs.{DepartsAt}
use Rattle.dmn_registry.specs.Machine.{Machine}
use Rattle.dmn_registry.specs.Own.{IsBetween, IsOwn, Leads}
use Rattle.dmn_registry.specs.Untrue.{OpeningStops}
use Rattle.dmn_status.specs.declared.status.Status.{Status}
use Rattle.dmn_status.specs.declared.status.Status.TheVariants as statuses
use Rattle.dmn_serve.specs.Callers.{ServesEach, Visit, moments_of, served_of, text_of}

-- ---- callers of a line

abbrev pub this_caller : Talk → Served
this_caller talk = record { sent = talk.sent; own = talk.own }

-- the earlier callers, and this one
abbrev pub all_callers : Talk → List Served
all_callers talk = talk.earlier ++ this_caller talk ∷ []

-- the moments of what each of them was sent
abbrev pub all_moments : Moments → List (List ℕ)
all_moments moments = moments.earlier ++ moments.sent ∷ []

-- These callers came, one after the other, and these are still to come. What was sent to the callers before is as it was. Where
-- no count of the line's faults rose, no caller's line failed.
pub record Came (stamped : Bool) (visits : List Visit) (rest : List (List ℕ)) (old new : LineView) : Type 0 where
  pub texts : old.talk.later ≡ map text_of visits ++ rest
  pub rest_is : new.talk.later ≡ rest
  pub served : all_callers new.talk ≡ all_callers old.talk ++ map served_of visits
  pub stamps : stamped ≡ true → all_moments new.moments ≡ all_moments old.moments ++ map moments_of visits
  pub whole : ¬ Rose old.faults new.faults → All (λ (visit : Visit). visit.served.own ≡ 0) visits

-- ---- what was done

-- From the machine m these callers are served so, and n is the machine behind them; since each byte of a reply was sent each
-- image of a crash has what was accepted until that reply. Since the start each image of a crash is own, of a machine between m
-- and the last that a crash may show.
pub record Answered (started : ℕ) (before disk : DiskView) (m : Machine) (visits : List Visit) (n last : Machine) : Type 0 where
  pub serves : ServesEach (IsLasting disk last) m visits n
  pub leads : Leads m n
  pub images : LeavesOnly started before disk (IsBetween m last)

-- a caller with these bytes, to whom nothing was sent, and whose line did not fail
abbrev pub unserved : List ℕ → Visit
unserved text = record { text = text; served = record { sent = []; own = 0 }; moments = [] }

-- a caller with these bytes asks for something, and where that is a command it was accepted, or not
abbrev pub AskedInHand : List ℕ → Machine → Machine → Type 0
AskedInHand text n last = (request : Request) × Exchanges text (asks request) × InHand n (entry_by request) last

-- as many callers as were asked for came, or no more come
abbrev pub AreAll : ℕ → List Visit → List (List ℕ) → Type 0
AreAll most visits rest = (length visits ≡ most) ⊎ ((length visits < most) × (rest ≡ []))

-- the disk failed while the registry was opened; or behind some callers, before anything was sent to the next one
abbrev pub StopsByDisk : ℕ → Bool → ℕ → Machine → DiskView → DiskView → LineView → LineView → Type 0
StopsByDisk most stamped started m before disk old new =
    ((new ≡ old) × LeavesOnly started before disk (IsBetween m m))
    ⊎ ((visits : List Visit) × (text : List ℕ) × (rest : List (List ℕ)) × (n last : Machine) × Answered started before disk m visits n last × AskedInHand text n last × (length visits < most) × Came stamped (visits ++ unserved text ∷ []) rest old new)

abbrev pub Outcome : Status → ℕ → Bool → ℕ → Machine → DiskView → DiskView → LineView → LineView → Type 0
-- all callers were served, and the disk is at rest, and own of the machine behind them
Outcome statuses.Done most stamped started m before disk old new =
    (visits : List Visit) × (rest : List (List ℕ)) × (n : Machine) × Answered started before disk m visits n n × Rests (IsOwn n) disk.told × AreAll most visits rest × Came stamped visits rest old new
-- the next caller could not be taken
Outcome statuses.LineFault most stamped started m before disk old new =
    (visits : List Visit) × (rest : List (List ℕ)) × (n : Machine) × Answered started before disk m visits n n × Rests (IsOwn n) disk.told × (length visits < most) × Came stamped visits rest old new
Outcome statuses.DiskFault most stamped started m before disk old new = StopsByDisk most stamped started m before disk old new
-- no caller was taken
Outcome statuses.Memory most stamped started m before disk old new = (new ≡ old) × LeavesOnly started before disk (IsBetween m m)
-- on an own image nothing departs
Outcome (statuses.NotJournal place) most stamped started m before disk old new = ⊥
Outcome statuses.Words most stamped started m before disk old new = ⊥
Outcome (statuses.StartForm place) most stamped started m before disk old new = ⊥
Outcome statuses.CutInput most stamped started m before disk old new = ⊥
Outcome statuses.Enough most stamped started m before disk old new = ⊥
Outcome statuses.AlreadyInit most stamped started m before disk old new = ⊥

-- ---- statuses

-- the statuses of a run that was opened
abbrev pub IsRunning : Status → Type 0
IsRunning statuses.Done = Unit {0}
IsRunning statuses.LineFault = Unit {0}
IsRunning statuses.DiskFault = Unit {0}
IsRunning statuses.Memory = ⊥
IsRunning (statuses.NotJournal place) = ⊥
IsRunning statuses.Words = ⊥
IsRunning (statuses.StartForm place) = ⊥
IsRunning statuses.CutInput = ⊥
IsRunning statuses.Enough = ⊥
IsRunning statuses.AlreadyInit = ⊥

-- the statuses of a run
abbrev pub OfServe : Status → Type 0
OfServe statuses.Memory = Unit {0}
OfServe (statuses.NotJournal place) = Unit {0}
OfServe status = IsRunning status

-- NotJournal tells a place at which an opening stops, whatever the slots hold.
abbrev pub StopsFor : Status → Told → Type 0
StopsFor (statuses.NotJournal place) told = IfReads told (λ all. OpeningStops all place)
StopsFor status told = Unit {0}

-- Callers are served only where file 0 is a journal image, and NotJournal tells the place where it departs from one.
abbrev pub OpensOn : Status → Told → Type 0
OpensOn statuses.Done told = IfReads told HasJournal
OpensOn statuses.LineFault told = IfReads told HasJournal
OpensOn statuses.DiskFault told = Unit {0}
OpensOn statuses.Memory told = Unit {0}
OpensOn (statuses.NotJournal place) told = IfReads told (λ all. DepartsAt all.zeroth place)
OpensOn statuses.Words told = ⊥
OpensOn (statuses.StartForm place) told = ⊥
OpensOn statuses.CutInput told = ⊥
OpensOn statuses.Enough told = ⊥
OpensOn statuses.AlreadyInit told = ⊥

-- So many callers came, whatever the disk holds: their bytes are dropped or taken, and what was sent to the callers before is as
-- it was.
pub record Passed (count : ℕ) (old new : Talk) : Type 0 where
  pub few : count ≤ length old.later
  pub later : new.later ≡ drop count old.later
  pub served : List Served
  pub counted : length served ≡ count
  pub all : all_callers new ≡ all_callers old ++ served

-- Done comes only behind as many callers as were asked for, or where no more come; LineFault only before.
abbrev pub EndsExactly : Status → ℕ → Talk → Talk → Type 0
EndsExactly statuses.Done most old new = (count : ℕ) × Passed count old new × ((count ≡ most) ⊎ ((count < most) × (new.later ≡ [])))
EndsExactly statuses.LineFault most old new = (count : ℕ) × Passed count old new × (count < most)
EndsExactly status most old new = Unit {0}
