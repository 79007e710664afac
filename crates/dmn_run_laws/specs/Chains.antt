-- Runs one behind the other.
use Rattle.std.specs.Prelude.{◌≡◌, ℕ, List, [], ◌∷◌}
use Rattle.dmn_outside.specs.Disk.{DiskView, MayLeave, Three}
use Rattle.dmn_outside.specs.Line.{Talk}
use Rattle.dmn_init.specs.Init.{Inits}
use Rattle.dmn_make.specs.Going.{made}
use Rattle.dmn_make.specs.Outcome.{Makes}
use Rattle.dmn_registry.specs.Machine.{Machine, at_rest, begun}
use Rattle.dmn_registry.specs.Own.{IsOwn, Leads}
use Rattle.dmn_rows.specs.Defs.{IsStartText}
use Rattle.dmn_rows.specs.declared.start.StartRecord.{StartRecord}
use Rattle.dmn_status.specs.declared.status.Status.TheVariants.{Done}
use Rattle.dmn_run_laws.specs.Runs.{IsRunOn, Keeps, Run}

-- each run is on what the run before left
abbrev pub IsChain : Three (List ℕ) → List Run → Type 0
IsChain image [] = Unit {0}
IsChain image (run ∷ runs) = IsRunOn image run × IsChain run.image runs

abbrev pub last_image : Three (List ℕ) → List Run → Three (List ℕ)
last_image image [] = image
last_image image (run ∷ runs) = last_image run.image runs

-- From m on, each run begins with a machine and leaves another, which has the commands of the first one and then a front of
-- those that the run accepted; what was answered in it is there then, and at the end.
abbrev pub KeepsAll : Machine → List Run → Machine → Type 0
KeepsAll m [] end = end ≡ m
KeepsAll m (run ∷ runs) end = (left : Machine) × IsOwn left run.image × Leads m left × Keeps run.doing run (at_rest m) left end × KeepsAll left runs end

-- The last image of a chain of runs is own, and has all commands that were there and then, run by run, a front of those that
-- the run accepted, with each that it answered.
abbrev pub ChainsKeepAnswered : Type 0
ChainsKeepAnswered = (m : Machine) (image : Three (List ℕ)) (runs : List Run) → IsOwn m image → IsChain image runs → (end : Machine) × IsOwn end (last_image image runs) × KeepsAll m runs end

-- The same from an image on that `init` may have left once it was done: there are no commands yet, and the start record is the
-- one that was read.
abbrev pub ChainsFromInitKeepAnswered : Type 0
ChainsFromInitKeepAnswered = (before after : DiskView) (old new : Talk) (image : Three (List ℕ)) (runs : List Run) → Inits Done before after old new → MayLeave after.told image → IsChain image runs
    → (start : StartRecord) × IsStartText old.left start × (end : Machine) × IsOwn end (last_image image runs) × KeepsAll (begun start) runs end

-- The same from an image on that `make` may have left once it was done: the commands of its run are there.
abbrev pub ChainsFromMakeKeepAnswered : Type 0
ChainsFromMakeKeepAnswered = (count : ℕ) (before after : DiskView) (old new : Talk) (image : Three (List ℕ)) (runs : List Run) → Makes Done count before after old new → MayLeave after.told image → IsChain image runs
    → (end : Machine) × IsOwn end (last_image image runs) × KeepsAll (made count).machine runs end
