-- What is asked of the office on the way, and what is done by that.
use Rattle.std.specs.Prelude.{◌≡◌, ◌⊎◌, ℕ, Bool, true, false, Result, Ok, Err}
use Rattle.dmn_desk.specs.declared.answer.Answer.{Answer}
use Rattle.dmn_desk.specs.declared.answer.Answer.TheVariants.{Short}
use Rattle.dmn_desk.specs.declared.answer.ShortAnswer.TheVariants as short
use Rattle.dmn_journal.specs.declared.fault.JournalFault.{JournalFault}
use Rattle.dmn_journal.specs.declared.fault.JournalFault.TheVariants as journals
use Rattle.dmn_office.specs.Offices.{GoesOn, StandsAt}
use Rattle.dmn_office.specs.declared.office.Office.{Office}
use Rattle.dmn_outside.specs.Crashes.{LeavesOnly}
use Rattle.dmn_outside.specs.Disk.{DiskView, Told}
use Rattle.dmn_registry.specs.Machine.{Machine}
use Rattle.dmn_registry.specs.Own.{IsBetween, Leads}
use Rattle.dmn_slots.specs.Slots.{records_of}
use Rattle.dmn_make.specs.Text.{mark_of}
use Rattle.dmn_make.specs.declared.fault.MakeFault.{MakeFault}
use Rattle.dmn_make.specs.declared.fault.MakeFault.TheVariants as faults

abbrev pub fault_of : JournalFault → MakeFault
fault_of journals.Memory = faults.Memory
fault_of journals.DiskFault = faults.DiskFault
fault_of (journals.NotJournal place) = faults.NotJournal place

-- the office stands for the machine on the disk, and its newest slot is where the commands say
pub record Stands (office : Office) (m : Machine) (told : Told) : Type 0 where
  pub at : StandsAt office m told
  pub mark : records_of office.registry.newest ≡ mark_of m

-- from m it goes on to n, whatever a crash comes between
pub record Goes (started : ℕ) (before after : DiskView) (m n : Machine) (new : Office) : Type 0 where
  pub on : GoesOn started before after m n new
  pub mark : records_of new.registry.newest ≡ mark_of n

-- it stopped at m, or at n
pub record Fails (started : ℕ) (before after : DiskView) (m n : Machine) : Type 0 where
  pub last : Machine
  pub is : (last ≡ m) ⊎ (last ≡ n)
  pub leads : Leads m last
  pub run : LeavesOnly started before after (IsBetween m last)

-- What was done where the machine behind it is this of the machine before: it is done; or memory ran out or the disk failed on the
-- way there.
abbrev pub Does : {T : Type 0} → Result T MakeFault → (Machine → Machine) → ℕ → DiskView → DiskView → Office → Office → Type 0
Does (Ok value) next started before after old new = (m : Machine) → Stands old m before.told → Goes started before after m (next m) new
Does (Err faults.Memory) next started before after old new = (m : Machine) → Stands old m before.told → Fails started before after m (next m)
Does (Err faults.DiskFault) next started before after old new = (m : Machine) → Stands old m before.told → Fails started before after m (next m)
Does (Err (faults.NotJournal place)) next started before after old new = ⊥

-- what is answered
abbrev pub Answers : Result Answer MakeFault → (Machine → Answer) → Office → Told → Type 0
Answers (Ok answer) told_by old told = (m : Machine) → Stands old m told → answer ≡ told_by m
Answers (Err fault) told_by old told = Unit {0}

abbrev pub is_memory : Answer → Bool
is_memory (Short short.Memory) = true
is_memory answer = false
