-- Why an opening stops at a place of file 0, whatever the slots hold.
use Rattle.std.specs.Prelude.{◌≡◌, ◌⊎◌, ℕ, ◌+◌, ◌<◌, List, [], ◌∷◌, ◌++◌, length, drop, Some, IfSome, Result, Ok, Err}
use Rattle.dmn_branch.specs.Machine as blocks
use Rattle.dmn_branch.specs.Machine.{Command, MachineState}
use Rattle.dmn_branch.specs.Pins.{no_pins}
use Rattle.dmn_branch.specs.Replay.{IsLawful}
use Rattle.dmn_branch.specs.Stands as branches
use Rattle.dmn_branch.specs.Stands.{Keeping}
use Rattle.dmn_bytes.specs.Law.{place_of}
use Rattle.dmn_bytes.specs.declared.fault.Departure.{Departure}
use Rattle.dmn_held.specs.declared.data.SnapshotData.{SnapshotData}
use Rattle.dmn_journal.specs.Journal.{AreShort, Entry, blocks as records, size_of_record}
use Rattle.dmn_journal.specs.Reading.{Found, closed, departs, found, found_at, header_departs}
use Rattle.dmn_journal.specs.declared.fault.JournalFault.{JournalFault}
use Rattle.dmn_journal.specs.declared.fault.JournalFault.TheVariants.{DiskFault, Memory, NotJournal}
use Rattle.dmn_outside.specs.Disk.{IfReads, Three, Told}
use Rattle.dmn_registry.specs.Departs.{DepartsAt}
use Rattle.dmn_registry.specs.Machine.{command_of, journal_max}
use Rattle.dmn_registry.specs.Opening.{HoldsNone, IsAllowed, IsRefused}
use Rattle.dmn_registry.specs.declared.registry.Registry.{Registry}
use Rattle.dmn_rows.specs.declared.start.StartRecord.{StartRecord}
use Rattle.dmn_snapshot.specs.Slot.{newest_in}
use Rattle.dmn_snapshot.specs.declared.slot.Slot.{Slot}
use Rattle.dmn_branch.specs.Holds.{Holds}

-- the rules accept these records, one after another
abbrev pub IsTakenOn : MachineState → List Entry → MachineState → Type 0
IsTakenOn s [] t = t ≡ s
IsTakenOn s (entry ∷ entries) t = (command : Command) × (command_of entry ≡ Ok command) × IsAllowed s command × IsTakenOn (blocks.with_command s command) entries t

-- From one place on a file has these records behind open gates, and the next gate is due at the other place.
pub record HasRecords (file : List ℕ) (from : ℕ) (entries : List Entry) (at : ℕ) : Type 0 where
  pub short : AreShort entries
  pub place : at ≡ from + length (records entries)
  pub text : drop from file ≡ records entries ++ drop at file

-- with the record of the gate at this place the journal would be longer than its limit
abbrev pub IsTooLong : ℕ → ℕ → Entry → Type 0
IsTooLong limit at entry = limit < at + 1 + size_of_record entry

-- the rules refuse a command by each machine that a held text holds, taken on by these records
abbrev pub IsRefusedBehind : StartRecord → SnapshotData → List Entry → Command → Type 0
IsRefusedBehind start held entries command =
    (s t : MachineState) → s.start ≡ start → IsLawful s.start (blocks.branch s) → Holds held s → IsTakenOn (record s { pins = no_pins }) entries t → IsRefused t command

-- the place that departs, by what a record's body says
abbrev pub StopsByBody : StartRecord → SnapshotData → List Entry → ℕ → Entry → Result Command Departure → ℕ → Type 0
StopsByBody start held entries at entry (Err departure) place = place ≡ at + 6 + place_of departure
StopsByBody start held entries at entry (Ok command) place = (place ≡ at) × (IsTooLong (journal_max start) at entry ⊎ IsRefusedBehind start held entries command)

-- the same, by what stands at the gate's place: a field that departs; or a record whose body departs, with which the journal is
-- too long, or which is refused
abbrev pub StopsAt : StartRecord → SnapshotData → List Entry → ℕ → Found → ℕ → Type 0
StopsAt start held entries at closed place = ⊥
StopsAt start held entries at (departs field) place = place ≡ field
StopsAt start held entries at (found entry) place = StopsByBody start held entries at entry (command_of entry) place

-- behind a slot's place: some records, and then one that stops
pub record StopsBehind (file : List ℕ) (start : StartRecord) (from : ℕ) (held : SnapshotData) (place : ℕ) : Type 0 where
  pub entries : List Entry
  pub at : ℕ
  pub records : HasRecords file from entries at
  pub stops : StopsAt start held entries at (found_at at (drop at file)) place

-- The header departs at this place. Or there is no slot, or it holds no machine, and there the file departs from a journal image.
-- Or it is behind the newest slot's place.
pub data OpeningStops (image : Three (List ℕ)) (place : ℕ) : Type 0 where
  header : header_departs image.zeroth ≡ Some place → OpeningStops image place
  without_slot : (start : StartRecord) → IfSome (newest_in image) (λ slot. HoldsNone start slot.stored) → DepartsAt image.zeroth place → OpeningStops image place
  behind_slot : (start : StartRecord) (slot : Slot) → newest_in image ≡ Some slot → StopsBehind image.zeroth start slot.stored.position slot.stored.held place → OpeningStops image place

-- NotJournal comes only for such a cause
abbrev pub HasCauseIn : Result Registry JournalFault → Told → Type 0
HasCauseIn (Ok registry) told = Unit {0}
HasCauseIn (Err (NotJournal place)) told = IfReads told (λ all. OpeningStops all place)
HasCauseIn (Err DiskFault) told = Unit {0}
HasCauseIn (Err Memory) told = Unit {0}

-- ---- what the parts say

-- a branch stands, for each machine that another one stood for, for the machine taken on by these records
abbrev pub Followed : Keeping → List Entry → Keeping → Type 0
Followed old entries new = (s : MachineState) → branches.StandsFor old s → (t : MachineState) × IsTakenOn s entries t × branches.StandsFor new t

-- a command is taken: the rules accept it, and the branch follows
abbrev pub TakesCommand : MachineState → Entry → Keeping → Type 0
TakesCommand s entry new = (command : Command) × (command_of entry ≡ Ok command) × IsAllowed s command × branches.StandsFor new (blocks.with_command s command)

-- the record that is taken, by what its body says; the branch that refuses it
abbrev pub StopsTake : Entry → ℕ → ℕ → ℕ → Keeping → Result Command Departure → Type 0
StopsTake entry at limit place branch (Err departure) = place ≡ at + 6 + place_of departure
StopsTake entry at limit place branch (Ok command) = (place ≡ at) × (IsTooLong limit at entry ⊎ ((s : MachineState) → branches.StandsFor branch s → IsRefused s command))

abbrev pub TakeStops : Result (Unit {0}) JournalFault → Entry → ℕ → ℕ → Keeping → Type 0
TakeStops (Ok done) entry at limit branch = Unit {0}
TakeStops (Err (NotJournal place)) entry at limit branch = StopsTake entry at limit place branch (command_of entry)
TakeStops (Err DiskFault) entry at limit branch = Unit {0}
TakeStops (Err Memory) entry at limit branch = Unit {0}

-- where a replay that began at a place with this branch stops
abbrev pub ReplayStops : Result Registry JournalFault → StartRecord → SnapshotData → ℕ → Told → Type 0
ReplayStops (Ok registry) start held from told = Unit {0}
ReplayStops (Err (NotJournal place)) start held from told = IfReads told (λ all. StopsBehind all.zeroth start from held place)
ReplayStops (Err DiskFault) start held from told = Unit {0}
ReplayStops (Err Memory) start held from told = Unit {0}

-- the branch stands for each machine that a held text holds
abbrev pub StandsForHeld : Keeping → StartRecord → SnapshotData → Type 0
StandsForHeld branch start held = (s : MachineState) → s.start ≡ start → IsLawful s.start (blocks.branch s) → Holds held s → branches.StandsFor branch (record s { pins = no_pins })
