-- Over a station that tells how many bytes more may be sent, and how long a file may be: what suffices for a run, and that then
-- no call fails.
use Rattle.std.specs.Prelude.{◌≡◌, ◌≢◌, ◌⊎◌, ℕ, ◌+◌, ◌<◌, ◌≤◌, List, [], ◌∷◌, ◌++◌, length, map, Result, Ok, Err}
use Rattle.std.specs.List.{All}
use Rattle.dmn_outside.specs.Disk.{DiskView}
use Rattle.dmn_outside.specs.Failing.{KeepsDisk, KeepsRoom}
use Rattle.dmn_outside.specs.Line.{LineView, Served}
use Rattle.dmn_outside.specs.declared.device.DiskFault.{DiskFault}
use Rattle.dmn_frames.specs.Room.{SpendsSent}
use Rattle.dmn_journal.specs.Journal.{gate_place, header_text}
use Rattle.dmn_desk.specs.declared.request.Request.{Request}
use Rattle.dmn_desk.specs.Asked.{HasRoom, entry_by}
use Rattle.dmn_http.specs.Exchanges.{Exchanges, asks}
use Rattle.dmn_office.specs.declared.office.Office.{Office}
use Rattle.dmn_office.specs.Offices.{StandsAt}
use Rattle.dmn_registry.specs.Machine.{Machine}
use Rattle.dmn_registry.specs.Snapshots.{SnapshotsFit}
use Rattle.dmn_status.specs.declared.status.Status.{Status}
use Rattle.dmn_status.specs.declared.status.Status.TheVariants as statuses
use Rattle.dmn_serve.specs.declared.serving.Stop.{Stop}
use Rattle.dmn_serve.specs.declared.serving.Turn.{Turn}
use Rattle.dmn_serve.specs.declared.serving.Turn.TheVariants as turns
use Rattle.dmn_serve.specs.Callers.{MaySend, ServesEach, Visit, served_of, text_of}
use Rattle.dmn_serve.specs.Outcome.{all_callers}
use Rattle.dmn_serve.specs.Steps.{MayReply}

-- ---- enough room

-- its line did not fail
abbrev pub IsUnfailed : Served → Type 0
IsUnfailed served = served.own ≡ 0

-- From the machine m, these are the first of the callers, and the others are left behind them. They may be served so, one after
-- another, each whole, and n is the machine behind them.
pub record MayBeServed (m : Machine) (callers : List (List ℕ)) (visits : List Visit) (rest : List (List ℕ)) (n : Machine) : Type 0 where
  pub texts : callers ≡ map text_of visits ++ rest
  pub serves : ServesEach (λ mid t. Unit {0}) m visits n
  pub whole : All IsUnfailed (map served_of visits)

-- how many bytes were sent to callers
abbrev pub sent_size : List Served → ℕ
sent_size [] = 0
sent_size (served ∷ more) = length served.sent + sent_size more

-- where this text asks for a command, its record fits behind a journal that ends here, in files that may be so long
abbrev pub HasPlace : List ℕ → ℕ → ℕ → Type 0
HasPlace text end room = (request : Request) → Exchanges text (asks request) → HasRoom (entry_by request) end room

-- the same of the first of the callers that come
abbrev pub HasPlaceNext : List (List ℕ) → ℕ → ℕ → Type 0
HasPlaceNext callers end room = (text : List ℕ) (others : List (List ℕ)) → callers ≡ text ∷ others → HasPlace text end room

-- So many bytes more may be sent, and files may be so long: this is enough for so many of the callers, whatever each of them is
-- sent. The room for sending has all bytes that may be sent to them, and a file has the journal behind them with the record of
-- any command that the next one may ask for, or a snapshot of the machine.
pub record Suffices (m : Machine) (most line_room disk_room : ℕ) (callers : List (List ℕ)) : Type 0 where
  pub sends : (visits : List Visit) (rest : List (List ℕ)) (n : Machine) → MayBeServed m callers visits rest n → length visits ≤ most → sent_size (map served_of visits) ≤ line_room
  pub keeps : (visits : List Visit) (rest : List (List ℕ)) (n : Machine) → MayBeServed m callers visits rest n → length visits < most → HasPlaceNext rest (gate_place (header_text n.start) n.commands) disk_room
  pub snapshots : (visits : List Visit) (rest : List (List ℕ)) (n : Machine) → MayBeServed m callers visits rest n → length visits < most → SnapshotsFit n disk_room

-- ---- a run

-- no call failed
pub record NeverFaults (status : Status) (old new : LineView) (before after : DiskView) : Type 0 where
  pub line_runs : status ≢ statuses.LineFault
  pub disk_runs : status ≢ statuses.DiskFault
  pub line_faults : new.faults ≡ old.faults
  pub caller_faults : new.caller_faults ≡ old.caller_faults
  pub disk_faults : after.faults ≡ before.faults
  pub whole : (served : List Served) → all_callers new.talk ≡ all_callers old.talk ++ served → All IsUnfailed served

-- no call failed, and a run that found the memory to start served all its callers
pub record EndsSurely (status : Status) (old new : LineView) (before after : DiskView) : Type 0 where
  pub never : NeverFaults status old new before after
  pub status_is : status ≢ statuses.Memory → status ≡ statuses.Done

-- ---- a turn

-- all was sent, without a fault, and what was sent is what was taken from the room
pub record IsWhole (room now : ℕ) (old new : LineView) : Type 0 where
  pub own : new.talk.own ≡ old.talk.own
  pub spent : SpendsSent room now old new

-- a request is done without a fault of the disk, and its reply is sent whole, or does not fit the room
abbrev pub AnswersSurely : Result (Unit {0}) DiskFault → Request → ℕ → ℕ → Office → LineView → LineView → DiskView → DiskView → Type 0
AnswersSurely (Ok done) request room now office old new before after =
    KeepsDisk before after × (IsWhole room now old new ⊎ ((bytes : List ℕ) × (room < length bytes) × ((m : Machine) → StandsAt office m before.told → (n : Machine) × MayReply m (asks request) bytes n)))
AnswersSurely (Err fault) request room now office old new before after = ⊥

-- the same of a caller
abbrev pub LacksRoom : List ℕ → ℕ → Office → DiskView → Type 0
LacksRoom text room office before = (bytes : List ℕ) × (room < length bytes) × ((m : Machine) → StandsAt office m before.told → (n : Machine) × MaySend m text bytes n)

abbrev pub ServesSurely : Result (Unit {0}) DiskFault → ℕ → ℕ → Office → LineView → LineView → DiskView → DiskView → Type 0
ServesSurely (Ok done) room now office old new before after = KeepsDisk before after × (IsWhole room now old new ⊎ LacksRoom old.talk.left room office before)
ServesSurely (Err fault) room now office old new before after = ⊥

-- a caller that came was sent all of its reply, and this is what was taken from the room
pub record IsWholeTurn (room now : ℕ) (old new : LineView) : Type 0 where
  pub own : new.talk.own ≡ 0
  pub spent : now + length new.talk.sent ≡ room
  pub faults : new.faults ≡ old.faults

-- no turn fails, and a reply is not sent whole only where it does not fit the room
abbrev pub TurnsSurely : Result Turn Stop → ℕ → ℕ → Office → LineView → LineView → DiskView → DiskView → Type 0
TurnsSurely (Ok turns.Served) room now office old new before after =
    KeepsDisk before after × (new.caller_faults ≡ old.caller_faults) × (IsWholeTurn room now old new ⊎ ((text : List ℕ) × (others : List (List ℕ)) × (old.talk.later ≡ text ∷ others) × LacksRoom text room office before))
TurnsSurely (Ok turns.Ended) room now office old new before after = KeepsDisk before after × KeepsRoom room now old new
TurnsSurely (Err stop) room now office old new before after = ⊥
