-- How a run begins, and how it ends.
use Rattle.std.specs.Prelude.{◌≡◌, ◌⊎◌, List, ℕ, Result, Ok, Err}
use Rattle.dmn_generator.specs.Blocks.{start}
use Rattle.dmn_journal.specs.Create.{IsBlank}
use Rattle.dmn_outside.specs.Changes.{OnlyReads}
use Rattle.dmn_outside.specs.Crashes.{IsKnown, Rests}
use Rattle.dmn_outside.specs.Disk.{DiskView, IfReads, Three, Told}
use Rattle.dmn_registry.specs.Audits.{audit_of}
use Rattle.dmn_registry.specs.Machine.{Machine, at_rest, begun}
use Rattle.dmn_registry.specs.Own.{IsOwn}
use Rattle.dmn_slots.specs.Slots.{newest_mark, records_of, slots_in}
use Rattle.dmn_status.specs.declared.status.Status.{Status}
use Rattle.dmn_status.specs.declared.status.Status.TheVariants as statuses
use Rattle.dmn_make.specs.Going.{beginning, made}
use Rattle.dmn_make.specs.Running.{IsAt}
use Rattle.dmn_make.specs.Text.{make_text, mark_of, seven_lines, tail_of}
use Rattle.dmn_make.specs.declared.fault.MakeFault.{MakeFault}
use Rattle.dmn_make.specs.declared.fault.MakeFault.TheVariants as faults
use Rattle.dmn_make.specs.declared.maker.Maker.{Maker}

-- there is no registry, or it is own with no command
abbrev pub IsBlankOrBegun : Three (List ℕ) → Type 0
IsBlankOrBegun image = IsBlank image.zeroth ⊎ IsOwn (begun start) image

-- a journal without commands was made of a blank file 0, or not
abbrev pub HasMade : {T : Type 0} → Result T Status → DiskView → DiskView → Type 0
HasMade (Ok done) before after = IfReads before.told (λ all. IsBlank all.zeroth) × Rests (IsOwn (begun start)) after.told
HasMade (Err statuses.AlreadyInit) before after = IfReads before.told (λ all. IsBlank all.zeroth → ⊥) × OnlyReads before after
HasMade (Err statuses.Memory) before after = IfReads before.told (λ all. IsBlank all.zeroth)
HasMade (Err statuses.DiskFault) before after = Unit {0}
HasMade (Err statuses.Done) before after = ⊥
HasMade (Err statuses.LineFault) before after = ⊥
HasMade (Err statuses.Words) before after = ⊥
HasMade (Err (statuses.NotJournal place)) before after = ⊥
HasMade (Err (statuses.StartForm place)) before after = ⊥
HasMade (Err statuses.CutInput) before after = ⊥
HasMade (Err statuses.Enough) before after = ⊥

-- it stands at the beginning
abbrev pub Opened : Result Maker MakeFault → Told → Type 0
Opened (Ok maker) told = IsAt maker beginning told
Opened (Err (faults.NotJournal place)) told = ⊥
Opened (Err faults.Memory) told = Unit {0}
Opened (Err faults.DiskFault) told = Unit {0}

-- the disk is at rest, own of the machine, and the newest slot is where the commands say
pub record IsEnd (m : Machine) (told : Told) : Type 0 where
  pub own : IsKnown (IsOwn m) told
  pub mark : IfReads told (λ all. records_of (newest_mark (slots_in all)) ≡ mark_of m)

-- what the registry is that is opened again
abbrev pub Ends : Result (List ℕ) MakeFault → Machine → List ℕ → Told → Type 0
Ends (Ok text) m pages told = (text ≡ seven_lines (audit_of (at_rest m)) (tail_of m) pages) × Rests (IsOwn m) told
Ends (Err (faults.NotJournal place)) m pages told = ⊥
Ends (Err faults.Memory) m pages told = Unit {0}
Ends (Err faults.DiskFault) m pages told = Unit {0}

-- the whole run
abbrev pub RunsAll : Result (List ℕ) MakeFault → ℕ → Told → Type 0
RunsAll (Ok text) count told = (text ≡ make_text count) × Rests (IsOwn (made count).machine) told
RunsAll (Err (faults.NotJournal place)) count told = ⊥
RunsAll (Err faults.Memory) count told = Unit {0}
RunsAll (Err faults.DiskFault) count told = Unit {0}
