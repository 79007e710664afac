-- What an image between two machines has.
use Rattle.std.specs.Prelude.{◌≡◌, ℕ, List, ◌++◌}
use Rattle.dmn_outside.specs.Disk.{Three}
use Rattle.dmn_journal.specs.Journal.{Entry, HasCommands, header_text}
use Rattle.dmn_registry.specs.Machine.{Machine, Reaches, at_rest}
use Rattle.dmn_registry.specs.Own.{IsBetween}

-- The commands of the file are those of the one machine, and then a front of those that were accepted until the other.
pub record HasFront (m n : Machine) (file : List ℕ) : Type 0 where
  pub accepted : List Entry
  pub front : List Entry
  pub rest : List Entry
  pub reaches : Reaches (at_rest m) accepted (at_rest n)
  pub split : accepted ≡ front ++ rest
  pub commands : HasCommands (header_text m.start) (m.commands ++ front) file

abbrev pub ImagesHaveFronts : Type 0
ImagesHaveFronts = (m n : Machine) (image : Three (List ℕ)) → IsBetween m n image → HasFront m n image.zeroth
