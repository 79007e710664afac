-- What a slot says of a journal, and how many records may stand behind the newest one.
use Rattle.std.specs.Prelude.{◌≡◌, ℕ, ◌+◌, ◌-◌, List, ◌++◌, length}
use Rattle.dmn_branch.specs.Machine.{MachineState, tip, top}
use Rattle.dmn_branch.specs.Pins.{no_pins}
use Rattle.dmn_branch.specs.Step.{profile_of}
use Rattle.dmn_journal.specs.Journal.{Entry, gate_place, header_text}
use Rattle.dmn_registry.specs.Machine.{IsReplayed, Machine, state_of}
use Rattle.dmn_rows.specs.declared.start.StartRecord.{StartRecord}
use Rattle.dmn_snapshot.specs.declared.slot.Stored.{Stored}
use Rattle.dmn_branch.specs.Holds.{Holds}

-- the machine of a start record with these commands, without pins
abbrev pub machine_of : StartRecord → List Entry → Machine
machine_of start commands = record { start = start; commands = commands; pins = no_pins }

-- A slot is faithful to a machine: it stands at the gate behind the first records of its journal, as many as it says, and what
-- it holds is the machine after these, which it accepts each in its place.
pub record IsFaithful (m : Machine) (stored : Stored) : Type 0 where
  pub before : List Entry
  pub behind : List Entry
  pub commands : m.commands ≡ before ++ behind
  pub replayed : IsReplayed (machine_of m.start before)
  pub records : stored.records ≡ length before
  pub place : stored.position ≡ gate_place (header_text m.start) before
  pub holds : Holds stored.held (state_of (machine_of m.start before))

-- a snapshot is due where so many records stand behind the newest one
abbrev pub every : StartRecord → ℕ
every start = (profile_of start).every

-- how far the tip stands below the top
abbrev pub depth_of : MachineState → ℕ
depth_of s = top s - (tip s).height

-- as many records stand behind the newest slot at most
abbrev pub longest_tail : Machine → ℕ
longest_tail m = every m.start + depth_of (state_of m)
