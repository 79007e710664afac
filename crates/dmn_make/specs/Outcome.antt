-- What a run has sent and written, by its status, and what a crash leaves at any moment of it.
use Rattle.std.specs.Prelude.{◌≡◌, ◌⊎◌, ℕ, List, ◌++◌}
use Rattle.dmn_generator.specs.Blocks.{start}
use Rattle.dmn_journal.specs.Create.{IsBlank}
use Rattle.dmn_outside.specs.Changes.{OnlyReads}
use Rattle.dmn_outside.specs.Crashes.{Rests}
use Rattle.dmn_outside.specs.Disk.{DiskView, IfReads, Three}
use Rattle.dmn_outside.specs.Line.{Talk}
use Rattle.dmn_outside.specs.Pieces.{SentFront}
use Rattle.dmn_registry.specs.Machine.{begun}
use Rattle.dmn_registry.specs.Own.{IsBetween, IsOwn}
use Rattle.dmn_status.specs.declared.status.Status.{Status}
use Rattle.dmn_status.specs.declared.status.Status.TheVariants as statuses
use Rattle.dmn_make.specs.Going.{after_all, beginning, made}
use Rattle.dmn_make.specs.Steps.{all_steps}
use Rattle.dmn_make.specs.Text.{make_text}
use Rattle.dmn_make.specs.declared.step.Step.{Step}

-- own of a machine on the way to the one behind some first steps of the run: its commands are a front of the run's
pub record IsOnWay (count : ℕ) (image : Three (List ℕ)) : Type 0 where
  pub done : List Step
  pub left : List Step
  pub steps : all_steps ≡ done ++ left
  pub between : IsBetween (begun start) (after_all count done beginning).machine image

-- or there is no registry yet
abbrev pub IsOfRun : ℕ → Three (List ℕ) → Type 0
IsOfRun count image = IsBlank image.zeroth ⊎ IsOnWay count image

-- the statuses of a run
abbrev pub OfMake : Status → Type 0
OfMake statuses.Done = Unit {0}
OfMake statuses.Memory = Unit {0}
OfMake statuses.DiskFault = Unit {0}
OfMake statuses.LineFault = Unit {0}
OfMake statuses.AlreadyInit = Unit {0}
OfMake (statuses.NotJournal place) = Unit {0}
OfMake statuses.Words = ⊥
OfMake (statuses.StartForm place) = ⊥
OfMake statuses.CutInput = ⊥
OfMake statuses.Enough = ⊥

abbrev pub Makes : Status → ℕ → DiskView → DiskView → Talk → Talk → Type 0
-- file 0 was blank, all commands of the run are on the disk, and the whole text was sent
Makes statuses.Done count before after old new = IfReads before.told (λ all. IsBlank all.zeroth) × Rests (IsOwn (made count).machine) after.told × (new ≡ record old { sent = old.sent ++ make_text count })
-- a front of it was
Makes statuses.LineFault count before after old new = IfReads before.told (λ all. IsBlank all.zeroth) × Rests (IsOwn (made count).machine) after.told × SentFront (make_text count) old new
-- nothing was sent: file 0 is not blank, and the files were only read
Makes statuses.AlreadyInit count before after old new = IfReads before.told (λ all. IsBlank all.zeroth → ⊥) × OnlyReads before after × (new ≡ old)
-- nothing was sent
Makes statuses.Memory count before after old new = IfReads before.told (λ all. IsBlank all.zeroth) × (new ≡ old)
Makes statuses.DiskFault count before after old new = new ≡ old
-- what was written is a journal image
Makes (statuses.NotJournal place) count before after old new = ⊥
Makes statuses.Words count before after old new = ⊥
Makes (statuses.StartForm place) count before after old new = ⊥
Makes statuses.CutInput count before after old new = ⊥
Makes statuses.Enough count before after old new = ⊥

-- all was sent, or memory ran out
abbrev pub EndsWell : Status → Type 0
EndsWell status = (status ≡ statuses.Done) ⊎ (status ≡ statuses.Memory)
