-- What making a registry does, by its status, and what a crash leaves at any moment of it.
use Rattle.std.specs.Prelude.{◌≡◌, ◌≢◌, ◌⊎◌, ℕ, Bool, true, false, List, [], take, drop}
use Rattle.dmn_bytes.specs.Defs.{Departs}
use Rattle.dmn_outside.specs.Crashes.{Rests}
use Rattle.dmn_outside.specs.Disk.{DiskView, IfReads, Three, Told}
use Rattle.dmn_outside.specs.Failing.{KeepsDisk}
use Rattle.dmn_outside.specs.Line.{LineView, Talk}
use Rattle.dmn_outside.specs.Pieces.{Broke}
use Rattle.dmn_journal.specs.Create.{IsBlank}
use Rattle.dmn_registry.specs.Machine.{begun}
use Rattle.dmn_registry.specs.Own.{IsOwn}
use Rattle.dmn_rows.specs.Defs.{IsStartText}
use Rattle.dmn_rows.specs.Start.{start_record}
use Rattle.dmn_rows.specs.declared.start.StartRecord.{StartRecord}
use Rattle.dmn_status.specs.declared.status.Status.{Status}
use Rattle.dmn_status.specs.declared.status.Status.TheVariants as statuses
use Rattle.dmn_init.specs.declared.input.TheConstants.{MOST_READ}

-- whether a file is blank
abbrev pub Blanks : Bool → List ℕ → Type 0
Blanks true file = IsBlank file
Blanks false file = IsBlank file → ⊥

-- An image is blank, or own with no command; and its start record has this text, where that is told.
abbrev pub IsBlankOrMade : Bool → List ℕ → Three (List ℕ) → Type 0
IsBlankOrMade told text image = IsBlank image.zeroth ⊎ ((start : StartRecord) × (told ≡ true → IsStartText text start) × IsOwn (begun start) image)

-- As far as it is told, the disk is at rest, and its image is own with the start record that has this text and no command.
abbrev pub IsMade : List ℕ → Told → Type 0
IsMade text told = (start : StartRecord) × IsStartText text start × Rests (IsOwn (begun start)) told

-- A text that was read is no start record: it departs from one at this place, and so does a text that is longer.
pub record IsNoStart (text : List ℕ) (place : ℕ) : Type 0 where
  pub departs : Departs start_record (take MOST_READ text) place
  pub none : (start : StartRecord) → IsStartText text start → ⊥

-- ---- by status

-- the statuses that come before the first write
abbrev pub ComesBefore : Status → Type 0
ComesBefore statuses.AlreadyInit = Unit {0}
ComesBefore (statuses.StartForm place) = Unit {0}
ComesBefore statuses.Memory = Unit {0}
ComesBefore statuses.LineFault = Unit {0}
ComesBefore statuses.Done = ⊥
ComesBefore statuses.DiskFault = ⊥
ComesBefore statuses.Words = ⊥
ComesBefore (statuses.NotJournal place) = ⊥
ComesBefore statuses.CutInput = ⊥
ComesBefore statuses.Enough = ⊥

-- the statuses of a journal that is made from a text
abbrev pub OfMaking : Status → Type 0
OfMaking statuses.Done = Unit {0}
OfMaking (statuses.StartForm place) = Unit {0}
OfMaking statuses.Memory = Unit {0}
OfMaking statuses.DiskFault = Unit {0}
OfMaking statuses.AlreadyInit = ⊥
OfMaking statuses.LineFault = ⊥
OfMaking statuses.Words = ⊥
OfMaking (statuses.NotJournal place) = ⊥
OfMaking statuses.CutInput = ⊥
OfMaking statuses.Enough = ⊥

-- and of a registry that is made from the input
abbrev pub OfInit : Status → Type 0
OfInit statuses.Done = Unit {0}
OfInit (statuses.StartForm place) = Unit {0}
OfInit statuses.Memory = Unit {0}
OfInit statuses.DiskFault = Unit {0}
OfInit statuses.AlreadyInit = Unit {0}
OfInit statuses.LineFault = Unit {0}
OfInit statuses.Words = ⊥
OfInit (statuses.NotJournal place) = ⊥
OfInit statuses.CutInput = ⊥
OfInit statuses.Enough = ⊥

-- what was made of a text
abbrev pub Makes : Status → List ℕ → Told → Type 0
Makes statuses.Done text told = IsMade text told
Makes (statuses.StartForm place) text told = Departs start_record text place × ((start : StartRecord) → IsStartText text start → ⊥)
Makes statuses.DiskFault text told = (start : StartRecord) × IsStartText text start
Makes statuses.Memory text told = Unit {0}
Makes statuses.AlreadyInit text told = Unit {0}
Makes statuses.LineFault text told = Unit {0}
Makes statuses.Words text told = Unit {0}
Makes (statuses.NotJournal place) text told = Unit {0}
Makes statuses.CutInput text told = Unit {0}
Makes statuses.Enough text told = Unit {0}

-- What was read and made. Nothing was sent, and no caller's input but this one's was taken.
abbrev pub Inits : Status → DiskView → DiskView → Talk → Talk → Type 0
-- the input was read to its end, and it was a start record
Inits statuses.Done before after old new = IfReads before.told (λ all. IsBlank all.zeroth) × IsMade old.left after.told × (new ≡ record old { left = [] })
-- file 0 is not blank, and nothing was read
Inits statuses.AlreadyInit before after old new = IfReads before.told (λ all. IsBlank all.zeroth → ⊥) × (new ≡ old)
-- the input is no start record
Inits (statuses.StartForm place) before after old new = IfReads before.told (λ all. IsBlank all.zeroth) × IsNoStart old.left place × (new ≡ record old { left = drop MOST_READ old.left })
-- some of the input was read
Inits statuses.Memory before after old new = IfReads before.told (λ all. IsBlank all.zeroth) × ((n : ℕ) × (new ≡ record old { left = drop n old.left }))
Inits statuses.LineFault before after old new = IfReads before.told (λ all. IsBlank all.zeroth) × Broke MOST_READ old new
-- nothing was read, or all of the input was, and it was a start record
Inits statuses.DiskFault before after old new = (new ≡ old) ⊎ (IfReads before.told (λ all. IsBlank all.zeroth) × ((start : StartRecord) × IsStartText old.left start) × (new ≡ record old { left = [] }))
Inits statuses.Words before after old new = ⊥
Inits (statuses.NotJournal place) before after old new = ⊥
Inits statuses.CutInput before after old new = ⊥
Inits statuses.Enough before after old new = ⊥

-- all was done, or memory ran out
abbrev pub EndsWell : Status → Type 0
EndsWell status = (status ≡ statuses.Done) ⊎ (status ≡ statuses.Memory)

-- ---- over a station that tells its room

pub record MakesSurely (status : Status) (before after : DiskView) : Type 0 where
  pub disk : KeepsDisk before after
  pub runs : status ≢ statuses.DiskFault

-- no call failed
pub record NeverFaults (status : Status) (before after : DiskView) (old new : LineView) : Type 0 where
  pub disk : KeepsDisk before after
  pub line : new.faults ≡ old.faults
  pub no_disk_fault : status ≢ statuses.DiskFault
  pub no_line_fault : status ≢ statuses.LineFault
