-- Laws about the definitions.
use Rattle.std.specs.Prelude.{◌≡◌, ℕ, List}
use Rattle.dmn_outside.specs.Crashes.{Rests}
use Rattle.dmn_outside.specs.Disk.{MayLeave, Three, Told}
use Rattle.dmn_registry.specs.Departs.{DepartsAt}
use Rattle.dmn_registry.specs.Machine.{Machine, at_rest}
use Rattle.dmn_registry.specs.Own.{IsJournal, IsOwn}

-- A file is the journal image of one machine at most, pins aside: each opening has this machine without a pin.
abbrev pub OneMachine : Type 0
OneMachine = (m n : Machine) (file : List ℕ) → IsJournal m file → IsJournal n file → at_rest m ≡ at_rest n

-- A journal image departs nowhere.
abbrev pub JournalsDepartNowhere : Type 0
JournalsDepartNowhere = (m : Machine) (file : List ℕ) (place : ℕ) → IsJournal m file → ¬ DepartsAt file place

-- What a crash leaves of a disk at rest with an own image is own, of the same machine.
abbrev pub AtRestIsOwn : Type 0
AtRestIsOwn = (m : Machine) (told : Told) (image : Three (List ℕ)) → Rests (IsOwn m) told → MayLeave told image → IsOwn m image
