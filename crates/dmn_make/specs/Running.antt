-- What steps do, one after another.
use Rattle.std.specs.Prelude.{◌≡◌, ℕ, List, ◌++◌, Result, Ok, Err}
use Rattle.dmn_outside.specs.Crashes.{LeavesOnly}
use Rattle.dmn_outside.specs.Disk.{DiskView, Told}
use Rattle.dmn_registry.specs.Own.{IsBetween}
use Rattle.dmn_make.specs.Asking.{Fails, Goes, Stands}
use Rattle.dmn_make.specs.Going.{Going, after, after_all}
use Rattle.dmn_make.specs.declared.fault.MakeFault.{MakeFault}
use Rattle.dmn_make.specs.declared.fault.MakeFault.TheVariants as faults
use Rattle.dmn_make.specs.declared.maker.Maker.{Maker}
use Rattle.dmn_make.specs.declared.step.Step.{Step}

-- what was done so far
pub record IsAt (maker : Maker) (g : Going) (told : Told) : Type 0 where
  pub office : Stands maker.office g.machine told
  pub pages : maker.pages ≡ g.pages

-- one step
abbrev pub TakesStep : {T : Type 0} → Result T MakeFault → ℕ → Step → ℕ → DiskView → DiskView → Maker → Maker → Type 0
TakesStep (Ok value) count step started before after_it old new = (g : Going) → IsAt old g before.told → Goes started before after_it g.machine (after count step g).machine new.office × (new.pages ≡ (after count step g).pages)
TakesStep (Err faults.Memory) count step started before after_it old new = (g : Going) → IsAt old g before.told → Fails started before after_it g.machine (after count step g).machine
TakesStep (Err faults.DiskFault) count step started before after_it old new = (g : Going) → IsAt old g before.told → Fails started before after_it g.machine (after count step g).machine
TakesStep (Err (faults.NotJournal place)) count step started before after_it old new = ⊥

-- behind all of these steps, on the way from g
pub record HasTaken (started : ℕ) (before after_it : DiskView) (g h : Going) (new : Maker) : Type 0 where
  pub goes : Goes started before after_it g.machine h.machine new.office
  pub pages : new.pages ≡ h.pages

-- it stopped behind some first of these steps
pub record HasStopped (count : ℕ) (steps : List Step) (started : ℕ) (before after_it : DiskView) (g : Going) : Type 0 where
  pub done : List Step
  pub left : List Step
  pub steps_are : steps ≡ done ++ left
  pub run : LeavesOnly started before after_it (IsBetween g.machine (after_all count done g).machine)

-- these steps
abbrev pub TakesSteps : {T : Type 0} → Result T MakeFault → ℕ → List Step → ℕ → DiskView → DiskView → Maker → Maker → Type 0
TakesSteps (Ok value) count steps started before after_it old new = (g : Going) → IsAt old g before.told → HasTaken started before after_it g (after_all count steps g) new
TakesSteps (Err (faults.NotJournal place)) count steps started before after_it old new = ⊥
TakesSteps (Err fault) count steps started before after_it old new = (g : Going) → IsAt old g before.told → HasStopped count steps started before after_it g
