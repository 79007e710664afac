-- What replay and opening do.
use Rattle.std.specs.Prelude.{◌≡◌, ◌⊎◌, ℕ, Bool, true, false, List, ◌++◌, drop, length, Option, None, Some, IfSome, Result, Ok, Err}
use Rattle.dmn_block.specs.declared.fault.BlockFault.{BlockFault}
use Rattle.dmn_block.specs.declared.fault.BlockFault.TheVariants as forms
use Rattle.dmn_block.specs.declared.refusal.Refusal.{Refusal}
use Rattle.dmn_branch.specs.Machine as blocks
use Rattle.dmn_branch.specs.Machine.{Command, Connect, Disconnect, MachineState}
use Rattle.dmn_branch.specs.Pins.{no_pins}
use Rattle.dmn_branch.specs.Replay.{IsLawful}
use Rattle.dmn_branch.specs.Stands as branches
use Rattle.dmn_branch.specs.Stands.{Keeping}
use Rattle.dmn_branch.specs.declared.fault.DisconnectRefusal.{DisconnectRefusal}
use Rattle.dmn_bytes.specs.Law.{place_of}
use Rattle.dmn_bytes.specs.declared.fault.Departure.{Departure}
use Rattle.dmn_bytes.specs.declared.fault.Memory.{Memory as NoMemory}
use Rattle.dmn_block.specs.Defs.{IsBlock}
use Rattle.dmn_journal.specs.Journal.{AreShort, Entry, blocks as records, header_text}
use Rattle.dmn_journal.specs.declared.fault.JournalFault.{JournalFault}
use Rattle.dmn_journal.specs.declared.fault.JournalFault.TheVariants.{DiskFault, Memory, NotJournal}
use Rattle.dmn_outside.specs.Crashes.{AreSynced}
use Rattle.dmn_outside.specs.Disk.{Three, Told, IfReads, all_reads, contents, nothing, whole}
use Rattle.dmn_registry.specs.Departs.{BeginsWith, DepartsAt, stop_by}
use Rattle.dmn_registry.specs.Machine.{Accepts, Machine, at_rest, begun, command_of, state_of, verdict, with_entry}
use Rattle.dmn_registry.specs.Own.{IsJournal, StandsFor, StandsOn, StandsOnFile}
use Rattle.dmn_registry.specs.declared.command.Command as read
use Rattle.dmn_registry.specs.declared.command.Command.TheVariants as commands
use Rattle.dmn_registry.specs.declared.registry.Registry.{Registry}
use Rattle.dmn_rows.specs.declared.start.StartRecord.{StartRecord}
use Rattle.dmn_slots.specs.Slots.{IsWithin, mark_in}
use Rattle.dmn_slots.specs.declared.mark.Mark.{Mark}
use Rattle.dmn_snapshot.specs.Slot.{newest_in}
use Rattle.dmn_snapshot.specs.declared.slot.Slot.{Slot}
use Rattle.dmn_snapshot.specs.declared.slot.Stored.{Stored}
use Rattle.dmn_branch.specs.Holds.{Holds}

-- what reads give, where it is told
abbrev pub reads_of : Told → Option (Three (List ℕ))
reads_of nothing = None
reads_of (contents c) = Some c
reads_of (whole w) = Some (all_reads w.files)

-- as far as it is told, nothing is pending
abbrev pub IsQuiet : Told → Type 0
IsQuiet nothing = Unit {0}
IsQuiet (contents c) = Unit {0}
IsQuiet (whole w) = AreSynced w.files

-- ---- one record

-- a command as it is read, as the machine of blocks sees it
abbrev pub seen : read.Command → Command
seen (commands.Connect block) = Connect block
seen (commands.Disconnect hash) = Disconnect hash

-- a block that was read keeps what blocks keep
abbrev pub IsSound : read.Command → Type 0
IsSound (commands.Connect block) = IsBlock block
IsSound (commands.Disconnect hash) = Unit {0}

-- what is read of an entry: its command, or where its body departs
abbrev pub Reads : Result read.Command BlockFault → Entry → Type 0
Reads (Ok command) entry = (command_of entry ≡ Ok (seen command)) × IsSound command
Reads (Err (forms.BlockForm place)) entry = (departure : Departure) × (command_of entry ≡ Err departure) × (place_of departure ≡ place)
Reads (Err forms.Memory) entry = Unit {0}

-- the rules accept a command
abbrev pub IsAllowed : MachineState → Command → Type 0
IsAllowed s (Connect block) = blocks.connect s block ≡ Ok (blocks.with_block s block)
IsAllowed s (Disconnect hash) = blocks.disconnect s hash ≡ Ok (blocks.without_tip s hash)

-- the rules refuse it
abbrev pub IsRefused : MachineState → Command → Type 0
IsRefused s (Connect block) = (refusal : Refusal) × (blocks.connect s block ≡ Err refusal)
IsRefused s (Disconnect hash) = (refusal : DisconnectRefusal) × (blocks.disconnect s hash ≡ Err refusal)

-- a branch followed a command, or the rules refuse it
abbrev pub Follows : Result Bool NoMemory → MachineState → Command → Keeping → Type 0
Follows (Ok true) s command new = IsAllowed s command × branches.StandsFor new (blocks.with_command s command)
Follows (Ok false) s command new = IsRefused s command
Follows (Err lack) s command new = Unit {0}

-- What taking a record did, by its answer: the machine with it; or the place that departs, where the gate is at this place.
abbrev pub TakesRecord : Result (Unit {0}) JournalFault → Machine → Entry → ℕ → Registry → Type 0
TakesRecord (Ok done) m entry at new = Accepts m entry (with_entry m entry) × StandsFor new (with_entry m entry)
TakesRecord (Err (NotJournal place)) m entry at new = stop_by at (verdict m entry) ≡ Some place
TakesRecord (Err DiskFault) m entry at new = Unit {0}
TakesRecord (Err Memory) m entry at new = Unit {0}

-- ---- all records

-- the records that were read so far; nothing is pinned
pub record Replayed (registry : Registry) (m : Machine) (told : Told) : Type 0 where
  pub registry_stands : StandsFor registry (at_rest m)
  pub short : AreShort m.commands
  pub text : IfReads told (λ all. all.zeroth ≡ (header_text m.start ++ records m.commands) ++ drop registry.journal.end all.zeroth)

-- What replay of file 0 answers: a registry that stands for the machine of the file, without a pin; or the place where the file
-- departs from a journal image.
abbrev pub Replays : Result Registry JournalFault → Told → Type 0
Replays (Ok registry) told = (m : Machine) × StandsFor registry (at_rest m) × IfReads told (λ all. IsJournal (at_rest m) all.zeroth)
Replays (Err (NotJournal place)) told = IfReads told (λ all. DepartsAt all.zeroth place)
Replays (Err DiskFault) told = Unit {0}
Replays (Err Memory) told = Unit {0}

-- ---- where replay begins

-- A slot is true of a file: this begins with the header and as many records as the slot says, up to its place, and what the
-- slot holds is the machine after these, which that machine accepts each in its place.
pub record IsTrueOf (file : List ℕ) (stored : Stored) : Type 0 where
  pub machine : Machine
  pub begins : BeginsWith file (at_rest machine) stored.position
  pub records : stored.records ≡ length machine.commands
  pub holds : Holds stored.held (state_of (at_rest machine))

-- the newest slot, where there is one, is true of file 0
abbrev pub HasTrueSlot : Three (List ℕ) → Type 0
HasTrueSlot image = IfSome (newest_in image) (λ slot. IsTrueOf image.zeroth slot.stored)

-- what reads give is told, and has P
abbrev pub Reading : (Three (List ℕ) → Type 0) → Told → Type 0
Reading P nothing = ⊥
Reading P (contents c) = P c
Reading P (whole w) = P (all_reads w.files)

-- a slot holds no machine of this start record
abbrev pub HoldsNone : StartRecord → Stored → Type 0
HoldsNone start stored = (s : MachineState) → s.start ≡ start → IsLawful s.start (blocks.branch s) → ¬ Holds stored.held s

-- behind the header, without commands: there is no slot, or what it holds is no machine
pub record FromHeader (start : StartRecord) (first : ℕ) (slot : Option Slot) (registry : Registry) : Type 0 where
  pub unfit : IfSome slot (λ slot. HoldsNone start slot.stored)
  pub branch : branches.StandsFor registry.branch (state_of (begun start))
  pub end : registry.journal.end ≡ first
  pub records : registry.journal.records ≡ 0

-- at the slot's place, with the machine that it holds
pub record FromSlot (start : StartRecord) (slot : Option Slot) (registry : Registry) : Type 0 where
  pub from : Slot
  pub is : slot ≡ Some from
  pub branch : (s : MachineState) → s.start ≡ start → IsLawful s.start (blocks.branch s) → Holds from.stored.held s → branches.StandsFor registry.branch (record s { pins = no_pins })
  pub end : registry.journal.end ≡ from.stored.position
  pub records : registry.journal.records ≡ from.stored.records

-- where the replay of a journal begins, by its header and the newest slot
pub record Begins (start : StartRecord) (first : ℕ) (slot : Option Slot) (registry : Registry) : Type 0 where
  pub usable : registry.spent ≡ false
  pub newest : registry.newest ≡ mark_in slot
  pub within : IfSome registry.newest IsWithin
  pub at : FromHeader start first slot registry ⊎ FromSlot start slot registry

-- the newest slot's place, or the header's end where there is none
abbrev pub first_place : ℕ → Option Mark → ℕ
first_place first None = first
first_place first (Some mark) = mark.position

-- ---- opening

-- What opening answers: a registry that stands for a machine without a pin on the disk; or the place where file 0 departs from
-- a journal image.
abbrev pub Opens : Result Registry JournalFault → Told → Told → Type 0
Opens (Ok registry) old new = (m : Machine) × StandsOnFile registry (at_rest m) new
Opens (Err (NotJournal place)) old new = IfReads old (λ all. DepartsAt all.zeroth place)
Opens (Err DiskFault) old new = Unit {0}
Opens (Err Memory) old new = Unit {0}

-- on an image of which this machine is recovered it is this machine without a pin, and nothing departs
abbrev pub Recovers : Result Registry JournalFault → Machine → Told → Type 0
Recovers (Ok registry) m new = StandsOn registry (at_rest m) new
Recovers (Err (NotJournal place)) m new = ⊥
Recovers (Err DiskFault) m new = Unit {0}
Recovers (Err Memory) m new = Unit {0}
