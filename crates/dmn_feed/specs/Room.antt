-- Runs over a station that tells its bytes, how many bytes more may be sent, and how long its files may be.
use Rattle.std.specs.Prelude.{◌≡◌, ◌≢◌, ℕ, ◌+◌, ◌<◌, ◌≤◌, List, length, take, Option, None, Some, Result, Ok, Err}
use Rattle.std.specs.List.{All, flat_map}
use Rattle.dmn_outside.specs.Disk.{DiskView}
use Rattle.dmn_outside.specs.Failing.{KeepsDisk, KeepsRoom}
use Rattle.dmn_outside.specs.Line.{LineView}
use Rattle.dmn_journal.specs.Journal.{Entry, gate_place, header_text, size_of_record}
use Rattle.dmn_journal.specs.Reading.{entry_departs}
use Rattle.dmn_desk.specs.declared.answer.Answer.{Answer}
use Rattle.dmn_desk.specs.Texts.{Fits, frame_of}
use Rattle.dmn_frames.specs.Frames.{Begins, Cuts, Frame, frame_at}
use Rattle.dmn_frames.specs.Room.{SpendsSent}
use Rattle.dmn_frames.specs.declared.limits.TheConstants.{LONGEST_BODY}
use Rattle.dmn_registry.specs.Machine.{Machine}
use Rattle.dmn_registry.specs.Snapshots.{SnapshotsFit}
use Rattle.dmn_status.specs.declared.status.Status.{Status}
use Rattle.dmn_status.specs.declared.status.Status.TheVariants as statuses
use Rattle.dmn_feed.specs.declared.asking.Stop.{Stop}
use Rattle.dmn_feed.specs.declared.asking.Stop.TheVariants as stops
use Rattle.dmn_feed.specs.declared.feeding.Turn.{Turn}
use Rattle.dmn_office.specs.declared.office.Office.{Office}
use Rattle.dmn_feed.specs.Laws.{status_of}
use Rattle.dmn_feed.specs.Outcome.{entry_of}
use Rattle.dmn_feed.specs.Serving.{Serves}
use Rattle.dmn_feed.specs.Steps.{Turned}

-- ---- enough room

-- From the machine m, the text begins with these frames, and this is left behind them. They may be answered so, one after
-- another, and n is the machine after them. Each answer's length fits its field.
pub record MayBeServed (m : Machine) (text : List ℕ) (frames : List Frame) (left : List ℕ) (answers : List Answer) (n : Machine) : Type 0 where
  pub front : Begins text frames left
  pub moments : List ℕ
  pub serves : Serves (λ mid t. Unit {0}) m frames answers moments n
  pub fit : All Fits answers

-- where the entry is in a record's form, its record fits behind a journal that ends here, in files that may be so long
abbrev pub HasPlace : Entry → ℕ → ℕ → Type 0
HasPlace entry end room = entry_departs entry ≡ None → end + 1 + size_of_record entry ≤ room

-- the same of the frame that stands at the front of a text
abbrev pub HasPlaceNext : List ℕ → ℕ → ℕ → Type 0
HasPlaceNext text end room = (frame : Frame) (after : List ℕ) → frame_at text ≡ Some (frame, after) → HasPlace (entry_of frame) end room

-- So many bytes more may be sent, and files may be so long: this is enough, whatever is answered to frames that the text begins
-- with. The room for sending has all bytes that may answer them, and a file has the journal behind them with the record of any
-- command that the next frame may be, or a snapshot of the machine.
pub record Suffices (m : Machine) (line_room disk_room : ℕ) (text : List ℕ) : Type 0 where
  pub sends : (frames : List Frame) (left : List ℕ) (answers : List Answer) (n : Machine) → MayBeServed m text frames left answers n → length (flat_map frame_of answers) ≤ line_room
  pub keeps : (frames : List Frame) (left : List ℕ) (answers : List Answer) (n : Machine) → MayBeServed m text frames left answers n → HasPlaceNext left (gate_place (header_text n.start) n.commands) disk_room
  pub snapshots : (frames : List Frame) (left : List ℕ) (answers : List Answer) (n : Machine) → MayBeServed m text frames left answers n → SnapshotsFit n disk_room

-- ---- a run

-- no call failed
pub record NeverFaults (status : Status) (old new : LineView) (before after : DiskView) : Type 0 where
  pub line_runs : status ≢ statuses.LineFault
  pub disk_runs : status ≢ statuses.DiskFault
  pub line_faults : new.faults ≡ old.faults
  pub disk_faults : after.faults ≡ before.faults

-- no call failed, and a run that found the memory to start ended as its text says
pub record EndsSurely (status : Status) (old new : LineView) (before after : DiskView) : Type 0 where
  pub never : NeverFaults status old new before after
  pub callers : new.caller_faults ≡ old.caller_faults
  pub status_is : status ≢ statuses.Memory → (frames : List Frame) (left : List ℕ) → Cuts old.talk.left frames left → status ≡ status_of frames left

-- ---- a turn

-- what was kept of the body of a frame of this kind and size has its place, if it is a command's
abbrev pub HasPlaceKept : ℕ → ℕ → List ℕ → ℕ → ℕ → Type 0
HasPlaceKept kind size kept end room = size ≤ LONGEST_BODY → HasPlace (record { kind = kind; body = kept }) end room

-- a frame of this kind, whose body of this size stands at the front of a text, has its place, if it is a command
abbrev pub HasPlaceBody : ℕ → ℕ → List ℕ → ℕ → ℕ → Type 0
HasPlaceBody kind size text end room = size ≤ length text → HasPlace (record { kind = kind; body = take size text }) end room

-- no call failed, and nothing was sent
abbrev pub AsksSurely : Result (Option Answer) Stop → ℕ → ℕ → LineView → LineView → DiskView → DiskView → Type 0
AsksSurely (Ok answer) room now old new before after = KeepsRoom room now old new × KeepsDisk before after
AsksSurely (Err stop) room now old new before after = ⊥

-- a turn fails where the next frame's answer does not fit the room for sending, and nowhere else
abbrev pub TurnsSurely : Result Turn Stop → ℕ → Office → Office → ℕ → ℕ → LineView → LineView → DiskView → DiskView → Type 0
TurnsSurely (Ok turn) started office next room now old new before after = SpendsSent room now old new × KeepsDisk before after
TurnsSurely (Err stops.LineFault) started office next room now old new before after = (answer : Answer) × (left : List ℕ) × Turned started before after office answer next old.talk.left left × (room < length (frame_of answer))
TurnsSurely (Err stops.DiskFault) started office next room now old new before after = ⊥
