-- The command that is run is the one that the words ask for; and how a run of frames ends where no device fails.
use Rattle.std.proofs.Common.{◌≡◌, ◌⊎◌, inl, inr, ℕ, Bool, List, refl, sym, subst, ◌∙◌}
use Rattle.std.specs.Prelude.{Option, Some}
use Rattle.dmn_outside.specs.Disk.{DiskView}
use Rattle.dmn_outside.specs.Line.{LineView}
use Rattle.dmn_frames.specs.Frames.{Cuts, Frame}
use Rattle.dmn_registry.specs.Machine.{Machine}
use Rattle.dmn_feed.specs.Laws.{status_of}
use Rattle.dmn_feed.specs.Outcome.{Outcome}
use Rattle.dmn_feed.proofs.Ending.{statuses_are_exact}
use Rattle.dmn_serve.specs.Outcome as serves
use Rattle.dmn_status.specs.declared.status.Status.{Status}
use Rattle.dmn_status.specs.declared.status.Status.TheVariants as statuses
use Rattle.dmn_commands.specs.declared.command.Command.{Command}
use Rattle.dmn_commands.specs.Outcome.{Passes, Run, Runs}

some_is : (a b : Command) → Some a ≡ Some b → a ≡ b
some_is a b is = cc

-- what holds of the command that is run holds of the words' command
pub as_asked : (P : Command → Type 0) (found : Option Command) (run_as asked : Command) → found ≡ Some run_as → found ≡ Some asked → P run_as → P asked
as_asked P found run_as asked is wanted holds = subst P (some_is run_as asked (sym is ∙ wanted)) holds

pub runs_asked : (found : Option Command) (run_as asked : Command) (status : Status) (run : Run) → found ≡ Some run_as → found ≡ Some asked → Runs run_as status run → Runs asked status run
runs_asked found run_as asked status run is wanted runs = as_asked (λ (c : Command). Runs c status run) found run_as asked is wanted runs

pub passes_asked : (stamped : Bool) (from to : ℕ) (old new : LineView) (found : Option Command) (run_as asked : Command) → found ≡ Some run_as → found ≡ Some asked → Passes run_as stamped from to old new → Passes asked stamped from to old new
passes_asked stamped from to old new found run_as asked is wanted passes = as_asked (λ (c : Command). Passes c stamped from to old new) found run_as asked is wanted passes

-- a run that no fault ended
pub ends_well : (status : Status) (stamped : Bool) (started : ℕ) (m : Machine) (before disk : DiskView) (old new : LineView) (frames : List Frame) (left : List ℕ) → Outcome status stamped started m before disk old new → Cuts old.talk.left frames left
    → (status ≡ statuses.LineFault → ⊥) → (status ≡ statuses.DiskFault → ⊥) → (status ≡ status_of frames left) ⊎ (status ≡ statuses.Memory)
ends_well statuses.Memory stamped started m before disk old new frames left o cut line no_disk = inr refl
ends_well statuses.Done stamped started m before disk old new frames left o cut line no_disk = inl ((statuses_are_exact statuses.Done stamped started m before disk old new frames left o cut).1 line no_disk (λ e. cc))
ends_well statuses.CutInput stamped started m before disk old new frames left o cut line no_disk = inl ((statuses_are_exact statuses.CutInput stamped started m before disk old new frames left o cut).1 line no_disk (λ e. cc))
ends_well statuses.Enough stamped started m before disk old new frames left o cut line no_disk = inl ((statuses_are_exact statuses.Enough stamped started m before disk old new frames left o cut).1 line no_disk (λ e. cc))
ends_well statuses.LineFault stamped started m before disk old new frames left o cut line no_disk = absurd (line refl)
ends_well statuses.DiskFault stamped started m before disk old new frames left o cut line no_disk = absurd (no_disk refl)
ends_well (statuses.NotJournal place) stamped started m before disk old new frames left o cut line no_disk = absurd o
ends_well statuses.Words stamped started m before disk old new frames left o cut line no_disk = absurd o
ends_well (statuses.StartForm place) stamped started m before disk old new frames left o cut line no_disk = absurd o
ends_well statuses.AlreadyInit stamped started m before disk old new frames left o cut line no_disk = absurd o

-- a run of `serve` that no fault ended
pub serves_well : (status : Status) (most : ℕ) (stamped : Bool) (started : ℕ) (m : Machine) (before disk : DiskView) (old new : LineView) → serves.Outcome status most stamped started m before disk old new → (status ≡ statuses.LineFault → ⊥) → (status ≡ statuses.DiskFault → ⊥) → (status ≡ statuses.Done) ⊎ (status ≡ statuses.Memory)
serves_well statuses.Done most stamped started m before disk old new o line no_disk = inl refl
serves_well statuses.Memory most stamped started m before disk old new o line no_disk = inr refl
serves_well statuses.LineFault most stamped started m before disk old new o line no_disk = absurd (line refl)
serves_well statuses.DiskFault most stamped started m before disk old new o line no_disk = absurd (no_disk refl)
serves_well (statuses.NotJournal place) most stamped started m before disk old new o line no_disk = absurd o
serves_well statuses.Words most stamped started m before disk old new o line no_disk = absurd o
serves_well (statuses.StartForm place) most stamped started m before disk old new o line no_disk = absurd o
serves_well statuses.CutInput most stamped started m before disk old new o line no_disk = absurd o
serves_well statuses.Enough most stamped started m before disk old new o line no_disk = absurd o
serves_well statuses.AlreadyInit most stamped started m before disk old new o line no_disk = absurd o
