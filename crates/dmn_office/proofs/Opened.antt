-- What opening leaves.
use Rattle.std.proofs.Common.{◌≡◌, ℕ, List}
use Rattle.dmn_branch.specs.Pins.{no_pins}
use Rattle.dmn_outside.specs.Crashes.{IsKnown, LeavesOnly, Rests}
use Rattle.dmn_outside.specs.Disk.{AreOver, DiskView, IfReads, MayLeave, Three, Told, contents, nothing, whole}
use Rattle.dmn_outside.proofs.Crash.{started, widened}
use Rattle.dmn_registry.specs.Machine.{Machine, at_rest}
use Rattle.dmn_registry.specs.Opening.{reads_of}
use Rattle.dmn_registry.specs.Own.{IsBetween, IsJournal, IsOwn}
use Rattle.dmn_registry.proofs.Apart.{own_apart}
use Rattle.dmn_registry.proofs.Between.{between_self}
use Rattle.dmn_registry.proofs.Once.{reads_same}
use Rattle.dmn_registry.proofs.Resting.{rests_images}
use Rattle.dmn_office.specs.Offices.{HasJournal}
use Rattle.std.specs.Prelude.{Err}
use Rattle.dmn_journal.specs.declared.fault.JournalFault.{JournalFault}
use Rattle.dmn_journal.specs.declared.fault.JournalFault.TheVariants as faults
use Rattle.dmn_registry.specs.Opening as registries
use Rattle.dmn_office.specs.Offices.{Recovers}

known_rests : (P : Three (List ℕ) → Type 0) (told : Told) → IsKnown P told → Rests P told
known_rests P nothing known = absurd known
known_rests P (contents c) known = known
known_rests P (whole w) known = known

-- each image of a disk at rest is own of the machine as an opening has it
own_images : (m : Machine) (told : Told) (image : Three (List ℕ)) → IsKnown (IsOwn m) told → MayLeave told image → IsOwn (at_rest m) image
own_images m told image known now = own_apart m no_pins image (rests_images m told image (known_rests (IsOwn m) told known) now)

-- opening adds no image
pub opened : (t : ℕ) (old new : DiskView) (m : Machine) → IsKnown (IsOwn m) old.told → LeavesOnly t old new (MayLeave old.told) → LeavesOnly t old new (IsOwn (at_rest m))
opened t old new m known run = widened t old new _ _ run (λ image now. own_images m old.told image known now)

-- before anything is opened
pub unopened : (t : ℕ) (disk : DiskView) (m : Machine) → AreOver t disk.past → IsKnown (IsOwn m) disk.told → LeavesOnly t disk disk (IsOwn (at_rest m))
unopened t disk m over known = started t disk (IsOwn (at_rest m)) over (λ image now. own_images m disk.told image known now)

-- what is own of a machine is between it and itself
pub own_between : (t : ℕ) (old new : DiskView) (m : Machine) → LeavesOnly t old new (IsOwn m) → LeavesOnly t old new (IsBetween m m)
own_between t old new m run = widened t old new _ _ run (λ image own. between_self m image own)

-- ---- what was opened is a journal image

rests_journal : (m : Machine) (told : Told) → Rests (λ image. IsJournal m image.zeroth) told → IfReads told HasJournal
rests_journal m nothing rests = tt
rests_journal m (contents c) rests = (m, rests)
rests_journal m (whole w) rests = (m, rests.0)

-- what reads give is as before the opening, whatever is told besides
pub reads_journal : (m : Machine) (old new : Told) → reads_of new ≡ reads_of old → Rests (λ image. IsJournal m image.zeroth) new → IfReads old HasJournal
reads_journal m old new same rests = reads_same old new HasJournal same (rests_journal m new rests)

-- what is not opened is not opened by an office
pub not_opened : (fault : JournalFault) (m n : Machine) (told : Told) → registries.Recovers (Err fault) m told → Recovers (Err fault) n told
not_opened (faults.NotJournal place) m n told recovers = absurd recovers
not_opened faults.DiskFault m n told recovers = tt
not_opened faults.Memory m n told recovers = tt
