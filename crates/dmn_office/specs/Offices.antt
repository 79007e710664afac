-- For which machine a desk and its registry stand on a disk, and what they do with a request.
use Rattle.std.specs.Prelude.{◌≡◌, ◌⊎◌, ℕ, List, Option, Some, Result, Ok, Err}
use Rattle.dmn_outside.specs.Crashes.{LeavesOnly}
use Rattle.dmn_outside.specs.Disk.{DiskView, IfReads, Three, Told}
use Rattle.dmn_outside.specs.declared.device.DiskFault.{DiskFault}
use Rattle.dmn_journal.specs.Journal.{Entry}
use Rattle.dmn_journal.specs.declared.fault.JournalFault.{JournalFault}
use Rattle.dmn_journal.specs.declared.fault.JournalFault.TheVariants as opens
use Rattle.dmn_desk.specs.declared.answer.Answer.{Answer}
use Rattle.dmn_desk.specs.declared.request.Request.{Request}
use Rattle.dmn_desk.specs.Asked.{MayAnswer, entry_by}
use Rattle.dmn_desk.specs.Kept.{IsTrueTo}
use Rattle.dmn_registry.specs.Departs.{DepartsAt}
use Rattle.dmn_registry.specs.Machine.{Accepts, Machine, state_of}
use Rattle.dmn_registry.specs.Own.{IsBetween, IsJournal, Leads, StandsOn}
use Rattle.dmn_registry.specs.Untrue.{OpeningStops}
use Rattle.dmn_office.specs.declared.office.Office.{Office}

-- The registry stands for the machine on the disk of which this is told, and the desk is true to it.
pub record StandsAt (office : Office) (m : Machine) (told : Told) : Type 0 where
  pub registry : StandsOn office.registry m told
  pub desk : IsTrueTo office.desk (state_of m)

-- ---- opening

-- on an image of which this machine is recovered the office stands for it, and nothing departs
abbrev pub Recovers : Result Office JournalFault → Machine → Told → Type 0
Recovers (Ok office) m told = StandsAt office m told
Recovers (Err (opens.NotJournal place)) m told = ⊥
Recovers (Err opens.DiskFault) m told = Unit {0}
Recovers (Err opens.Memory) m told = Unit {0}

-- file 0 is a journal image
abbrev pub HasJournal : Three (List ℕ) → Type 0
HasJournal image = (m : Machine) × IsJournal m image.zeroth

-- It opens only where file 0 is a journal image, and NotJournal tells where it departs from one.
abbrev pub OpensOn : Result Office JournalFault → Told → Type 0
OpensOn (Ok office) told = IfReads told HasJournal
OpensOn (Err (opens.NotJournal place)) told = IfReads told (λ all. DepartsAt all.zeroth place)
OpensOn (Err opens.DiskFault) told = Unit {0}
OpensOn (Err opens.Memory) told = Unit {0}

-- NotJournal tells a place at which an opening stops, whatever the slots hold.
abbrev pub StopsFor : Result Office JournalFault → Told → Type 0
StopsFor (Ok office) told = Unit {0}
StopsFor (Err (opens.NotJournal place)) told = IfReads told (λ all. OpeningStops all place)
StopsFor (Err opens.DiskFault) told = Unit {0}
StopsFor (Err opens.Memory) told = Unit {0}

-- ---- what is done with a request

-- From m it goes on to n: the office stands for n on the disk, and a crash since the start leaves what is own of a machine
-- between them.
pub record GoesOn (started : ℕ) (before after : DiskView) (m n : Machine) (new : Office) : Type 0 where
  pub stands : StandsAt new n after.told
  pub leads : Leads m n
  pub run : LeavesOnly started before after (IsBetween m n)

-- a command in hand, if there is one, was accepted, or not
abbrev pub InHand : Machine → Option Entry → Machine → Type 0
InHand m found last = (last ≡ m) ⊎ ((entry : Entry) × (found ≡ Some entry) × Accepts m entry last)

-- The disk failed: a command in hand may be there, or it was not accepted.
pub record Breaks (started : ℕ) (before after : DiskView) (m : Machine) (found : Option Entry) : Type 0 where
  pub last : Machine
  pub hand : InHand m found last
  pub run : LeavesOnly started before after (IsBetween m last)

abbrev pub Gives : Result Answer DiskFault → Request → ℕ → DiskView → DiskView → Office → Office → Type 0
Gives (Ok answer) request started before after old new = (m : Machine) → StandsAt old m before.told → (n : Machine) × MayAnswer m request answer n × GoesOn started before after m n new
Gives (Err fault) request started before after old new = (m : Machine) → StandsAt old m before.told → Breaks started before after m (entry_by request)
