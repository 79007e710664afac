-- Own images and the machine that is recovered from one, and a registry that stands for a machine on a disk.
use Rattle.std.specs.Prelude.{◌≡◌, ◌⊎◌, false, List, ℕ, length, IfSome}
use Rattle.dmn_branch.specs.Stands as branches
use Rattle.dmn_outside.specs.Crashes.{Rests}
use Rattle.dmn_outside.specs.Disk.{IfReads, Three, Told}
use Rattle.dmn_journal.specs.Journal.{Entry, HasCommands, gate_place, header_text}
use Rattle.dmn_registry.specs.Faithful.{IsFaithful, longest_tail}
use Rattle.dmn_registry.specs.Machine.{Machine, IsReplayed, Accepts, Reaches, at_rest, state_of}
use Rattle.dmn_registry.specs.declared.registry.Registry.{Registry}
use Rattle.dmn_rows.specs.Defs.{IsStart}
use Rattle.dmn_slots.specs.Slots.{AreKept, IsWithin, newest_mark, slots_in}

-- A file is a journal image, and this is the machine that is recovered from it, pins aside: its start record, and the records
-- behind its open gates up to the first that is closed, each of which the machine accepts in its place.
pub record IsJournal (m : Machine) (file : List ℕ) : Type 0 where
  pub start : IsStart m.start
  pub replayed : IsReplayed m
  pub journal : HasCommands (header_text m.start) m.commands file

-- An image is own, and this is the machine that is recovered from it, pins aside: that of file 0. Each valid slot is faithful,
-- of two one is older and has fewer records, and few records stand behind the newest.
pub record IsOwn (m : Machine) (image : Three (List ℕ)) : Type 0 where
  pub file : IsJournal m image.zeroth
  pub slots : AreKept (IsFaithful m) (length m.commands) (longest_tail m) (slots_in image)

-- an image is own, of the machine before a command or after it
abbrev pub OwnWith : Machine → Entry → Three (List ℕ) → Type 0
OwnWith m entry image = IsOwn m image ⊎ ((n : Machine) × Accepts m entry n × IsOwn n image)

-- from the one machine the other is reached, pins aside
abbrev pub Leads : Machine → Machine → Type 0
Leads m n = (entries : List Entry) × Reaches (at_rest m) entries (at_rest n)

-- an image is own, of a machine on the way from one to another
pub record IsBetween (m n : Machine) (image : Three (List ℕ)) : Type 0 where
  pub machine : Machine
  pub from : Leads m machine
  pub to : Leads machine n
  pub own : IsOwn machine image

-- ---- a registry

-- The registry stands for the machine: its branch does, its journal's end and records are those of the machine's journal, and it
-- isn't spent.
pub record StandsFor (registry : Registry) (m : Machine) : Type 0 where
  pub usable : registry.spent ≡ false
  pub branch : branches.StandsFor registry.branch (state_of m)
  pub end : registry.journal.end ≡ gate_place (header_text m.start) m.commands
  pub records : registry.journal.records ≡ length m.commands
  pub start : IsStart m.start
  pub replayed : IsReplayed m

-- and the disk is at rest with an image that has P, and whose newest slot has the mark that the registry keeps, as far as this
-- is told
pub record StandsWith (P : Three (List ℕ) → Type 0) (registry : Registry) (m : Machine) (told : Told) : Type 0 where
  pub registry_stands : StandsFor registry m
  pub disk : Rests P told
  pub within : IfSome registry.newest IsWithin
  pub newest : IfReads told (λ all. registry.newest ≡ newest_mark (slots_in all))

-- The registry stands for the machine on a disk of which this is told.
abbrev pub StandsOn : Registry → Machine → Told → Type 0
StandsOn registry m told = StandsWith (IsOwn m) registry m told

-- the same as far as file 0 alone can say
abbrev pub StandsOnFile : Registry → Machine → Told → Type 0
StandsOnFile registry m told = StandsWith (λ image. IsJournal m image.zeroth) registry m told
