-- What was answered at a moment, and is there in each image since.
use Rattle.std.specs.Prelude.{◌≡◌, ℕ, ◌≤◌, List, length}
use Rattle.std.specs.List.{All}
use Rattle.dmn_outside.specs.Disk.{AreOver, DiskView, Since, Three}
use Rattle.dmn_registry.specs.Machine.{Machine}
use Rattle.dmn_registry.specs.Own.{IsBetween, Leads}

-- A byte of an answer was sent at the moment t, and the machine was mid behind that answer: each image of a crash at a moment
-- since t is own, and has mid's commands, and no others than those that were accepted until last.
pub record IsLasting (disk : DiskView) (last mid : Machine) (t : ℕ) : Type 0 where
  pub leads : Leads mid last
  pub each : (image : Three (List ℕ)) → Since disk t image → IsBetween mid last image

-- a moment for each of these bytes, none before a moment at which all earlier states of the disk were over
pub record SentLater (bytes : List ℕ) (disk : DiskView) : Type 0 where
  pub from : ℕ
  pub over : AreOver from disk.past
  pub moments : List ℕ
  pub count : length moments ≡ length bytes
  pub each : All (λ t. from ≤ t) moments
