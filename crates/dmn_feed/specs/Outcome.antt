-- What a run over a station that tells its bytes has read and sent, and what a crash may leave since its start, by its status.
use Rattle.std.specs.Prelude.{◌≡◌, ◌≢◌, ◌⊎◌, ℕ, ◌<◌, ◌≤◌, Bool, true, List, [], ◌∷◌, ◌++◌, length, None, Some}
use Rattle.std.specs.List.{All, flat_map}
use Rattle.dmn_outside.specs.Crashes.{LeavesOnly, Rests}
use Rattle.dmn_outside.specs.Disk.{DiskView, IfReads, Told}
use Rattle.dmn_outside.specs.Line.{LineView}
use Rattle.dmn_journal.specs.Journal.{Entry}
use Rattle.dmn_desk.specs.declared.answer.Answer.{Answer}
use Rattle.dmn_desk.specs.Texts.{Fits, frame_of}
use Rattle.dmn_frames.specs.Frames.{Begins, Frame, frame_at}
use Rattle.dmn_office.specs.Lasting.{IsLasting}
use Rattle.dmn_office.specs.Offices.{HasJournal}
use Rattle.dmn_registry.specs.Departs.{DepartsAt}
use Rattle.dmn_registry.specs.Machine.{Accepts, Machine}
use Rattle.dmn_registry.specs.Own.{IsBetween, IsOwn, Leads}
use Rattle.dmn_registry.specs.Untrue.{OpeningStops}
use Rattle.dmn_status.specs.declared.status.Status.{Status}
use Rattle.dmn_status.specs.declared.status.Status.TheVariants as statuses
use Rattle.dmn_feed.specs.Serving.{Serves}

-- From the machine m, the text begins with these frames, and this is left behind them. These bytes are their answers, in order;
-- these are the moments at which they are sent; and n is the machine after them. Each answer's length fits its field. Since the
-- start each image of a crash is own, of a machine between m and the last that a crash may show.
pub record Answered (started : ℕ) (before disk : DiskView) (m : Machine) (text : List ℕ) (frames : List Frame) (left bytes moments : List ℕ) (n last : Machine) : Type 0 where
  pub front : Begins text frames left
  pub answers : List Answer
  pub serves : Serves (IsLasting disk last) m frames answers moments n
  pub fit : All Fits answers
  pub bytes_are : bytes ≡ flat_map frame_of answers
  pub leads : Leads m n
  pub images : LeavesOnly started before disk (IsBetween m last)

-- all of these bytes were sent at these moments, this is still to come, and nothing else changed
pub record Sent (stamped : Bool) (left bytes moments : List ℕ) (old new : LineView) : Type 0 where
  pub talk : new.talk ≡ record old.talk { left = left; sent = old.talk.sent ++ bytes }
  pub stamps : stamped ≡ true → new.moments ≡ record old.moments { sent = old.moments.sent ++ moments }

-- the bytes of the last of these answers
abbrev pub last_bytes : List Answer → List ℕ
last_bytes [] = []
last_bytes (answer ∷ []) = frame_of answer
last_bytes (answer ∷ more ∷ answers) = last_bytes (more ∷ answers)

-- A front of the bytes of these answers was sent before a fault of this caller's: all but a part of the last one. Nothing else
-- changed.
pub record SentBefore (stamped : Bool) (answers : List Answer) (bytes moments : List ℕ) (old new : LineView) : Type 0 where
  pub more : List ℕ
  pub front : new.talk.sent ++ more ≡ old.talk.sent ++ bytes
  pub few : length more ≤ length (last_bytes answers)
  pub own : 0 < new.talk.own
  pub others : new.talk ≡ record old.talk { left = new.talk.left; sent = new.talk.sent; own = new.talk.own }
  pub later : List ℕ
  pub stamps : stamped ≡ true → new.moments.sent ++ later ≡ old.moments.sent ++ moments

-- a frame of a command, as a journal keeps it
abbrev pub entry_of : Frame → Entry
entry_of frame = record { kind = frame.kind; body = frame.body }

-- the command of the next frame was accepted, or not
abbrev pub InHand : List ℕ → Machine → Machine → Type 0
InHand left n last = (last ≡ n) ⊎ ((frame : Frame) × (after : List ℕ) × (frame_at left ≡ Some (frame, after)) × Accepts n (entry_of frame) last)

-- as many frames as one run answers
abbrev pub most : ℕ
most = 4294967295

abbrev pub Outcome : Status → Bool → ℕ → Machine → DiskView → DiskView → LineView → LineView → Type 0
-- each byte belongs to a frame, and each frame was answered; the disk is at rest, and own of the machine after them
Outcome statuses.Done stamped started m before disk old new = (frames : List Frame) × (bytes moments : List ℕ) × (n : Machine)
    × Answered started before disk m old.talk.left frames [] bytes moments n n × Rests (IsOwn n) disk.told × (length frames < most) × Sent stamped [] bytes moments old new
-- the same, and a part of a frame was left
Outcome statuses.CutInput stamped started m before disk old new = (frames : List Frame) × (left bytes moments : List ℕ) × (n : Machine)
    × Answered started before disk m old.talk.left frames left bytes moments n n × Rests (IsOwn n) disk.told × (length frames < most) × (left ≢ []) × (frame_at left ≡ None) × Sent stamped [] bytes moments old new
-- the most frames were answered
Outcome statuses.Enough stamped started m before disk old new = (frames : List Frame) × (left bytes moments : List ℕ) × (n : Machine)
    × Answered started before disk m old.talk.left frames left bytes moments n n × Rests (IsOwn n) disk.told × (length frames ≡ most) × Sent stamped left bytes moments old new
-- a front of the answers was sent, each behind its command on the disk
Outcome statuses.LineFault stamped started m before disk old new = (frames : List Frame) × (left bytes moments : List ℕ) × (n : Machine)
    × (a : Answered started before disk m old.talk.left frames left bytes moments n n) × Rests (IsOwn n) disk.told × (length frames ≤ most) × SentBefore stamped a.answers bytes moments old new
-- the answers of all frames before the one in hand were sent
Outcome statuses.DiskFault stamped started m before disk old new = (frames : List Frame) × (left bytes moments : List ℕ) × (n last : Machine)
    × Answered started before disk m old.talk.left frames left bytes moments n last × InHand left n last × (length frames < most) × Sent stamped new.talk.left bytes moments old new
-- nothing was taken or sent
Outcome statuses.Memory stamped started m before disk old new = (new ≡ old) × LeavesOnly started before disk (IsBetween m m)
-- on an own image nothing departs
Outcome (statuses.NotJournal place) stamped started m before disk old new = ⊥
Outcome statuses.Words stamped started m before disk old new = ⊥
Outcome (statuses.StartForm place) stamped started m before disk old new = ⊥
Outcome statuses.AlreadyInit stamped started m before disk old new = ⊥

-- the statuses of a run that was opened
abbrev pub IsRunning : Status → Type 0
IsRunning statuses.Done = Unit {0}
IsRunning statuses.CutInput = Unit {0}
IsRunning statuses.Enough = Unit {0}
IsRunning statuses.LineFault = Unit {0}
IsRunning statuses.DiskFault = Unit {0}
IsRunning statuses.Memory = ⊥
IsRunning (statuses.NotJournal place) = ⊥
IsRunning statuses.Words = ⊥
IsRunning (statuses.StartForm place) = ⊥
IsRunning statuses.AlreadyInit = ⊥

-- the statuses of a run
abbrev pub OfFeed : Status → Type 0
OfFeed statuses.Memory = Unit {0}
OfFeed (statuses.NotJournal place) = Unit {0}
OfFeed status = IsRunning status

-- NotJournal tells a place at which an opening stops, whatever the slots hold.
abbrev pub StopsFor : Status → Told → Type 0
StopsFor (statuses.NotJournal place) told = IfReads told (λ all. OpeningStops all place)
StopsFor status told = Unit {0}

-- Frames are answered only where file 0 is a journal image, and NotJournal tells the place where it departs from one.
abbrev pub OpensOn : Status → Told → Type 0
OpensOn statuses.Done told = IfReads told HasJournal
OpensOn statuses.CutInput told = IfReads told HasJournal
OpensOn statuses.Enough told = IfReads told HasJournal
OpensOn statuses.LineFault told = IfReads told HasJournal
OpensOn (statuses.NotJournal place) told = IfReads told (λ all. DepartsAt all.zeroth place)
OpensOn statuses.DiskFault told = Unit {0}
OpensOn statuses.Memory told = Unit {0}
OpensOn statuses.Words told = ⊥
OpensOn (statuses.StartForm place) told = ⊥
OpensOn statuses.AlreadyInit told = ⊥
