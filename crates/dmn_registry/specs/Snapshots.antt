-- When a snapshot is written, and how much room it takes.
use Rattle.std.specs.Prelude.{◌≡◌, ℕ, ◌+◌, ◌-◌, ◌<◌, ◌≤◌, if◌then◌else◌, length, nat_le, None}
use Rattle.dmn_block.specs.declared.frame.BlockFrame.{BlockFrame}
use Rattle.dmn_branch.specs.Machine.{Connect, profile}
use Rattle.dmn_journal.specs.Journal.{Entry, IsShort}
use Rattle.dmn_journal.specs.Reading.{entry_departs}
use Rattle.dmn_registry.specs.Faithful.{every}
use Rattle.dmn_registry.specs.Machine.{Machine, command_of, state_of}
use Rattle.dmn_registry.specs.Own.{StandsFor}
use Rattle.dmn_registry.specs.declared.registry.Registry.{Registry}
use Rattle.dmn_slots.specs.Slots.{records_of}
use Rattle.dmn_snapshot.specs.Slot.{slot_text}
use Rattle.dmn_snapshot.specs.declared.slot.Stored.{Stored}
use Rattle.dmn_branch.specs.Holds.{Holds}
use Rattle.dmn_branch.specs.Lean.{IsLean}
use Rattle.std.specs.Prelude.{Ok}

-- fewer records stand behind the newest slot than a snapshot is due at
abbrev pub HasRoom : Machine → Registry → Type 0
HasRoom m registry = registry.journal.records < records_of registry.newest + every m.start

-- how many records stand before the newest slot's place behind a connect: one is written, of the state before the block, exactly
-- where as many stand behind it as one is due at
abbrev pub moved : Machine → Registry → ℕ
moved m registry = if nat_le (every m.start) (registry.journal.records - records_of registry.newest) then registry.journal.records else records_of registry.newest

-- each slot that holds the machine and is lean may be written
abbrev pub SnapshotsFit : Machine → ℕ → Type 0
SnapshotsFit m room = (stored : Stored) → Holds stored.held (state_of m) → IsLean (profile (state_of m)) stored.held → 1 + length (slot_text stored) ≤ room

-- the registry stands for a machine of which a snapshot may be written
abbrev pub HasRoomForSnapshot : Registry → ℕ → Type 0
HasRoomForSnapshot registry room = (m : Machine) × StandsFor registry m × SnapshotsFit m room

-- the entry is in its form, and keeps this block
pub record KeepsBlock (entry : Entry) (block : BlockFrame) : Type 0 where
  pub form : entry_departs entry ≡ None
  pub short : IsShort entry
  pub command : command_of entry ≡ Ok (Connect block)
