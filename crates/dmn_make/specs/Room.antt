-- Over a station that tells how many bytes more may be sent, and how long its files may be: what is enough for a run, and that no
-- call fails then.
use Rattle.std.specs.Prelude.{◌≡◌, ℕ, ◌≤◌, List, [], ◌∷◌, ◌++◌, length, Option, None, Some}
use Rattle.dmn_bytes.specs.declared.hash.Hash256.{Hash256}
use Rattle.dmn_desk.specs.Asked.{entry_by}
use Rattle.dmn_generator.specs.Blocks.{body_of}
use Rattle.dmn_generator.specs.Masternodes.{no_hash}
use Rattle.dmn_init.specs.Init.{NeverFaults}
use Rattle.dmn_journal.specs.Create.{IsBlank}
use Rattle.dmn_journal.specs.Journal.{Entry, journal_text}
use Rattle.dmn_outside.specs.Disk.{DiskView, IfReads}
use Rattle.dmn_outside.specs.Line.{LineView}
use Rattle.dmn_registry.specs.Machine.{Machine, connecting}
use Rattle.dmn_registry.specs.Snapshots.{SnapshotsFit}
use Rattle.dmn_status.specs.declared.status.Status.{Status}
use Rattle.dmn_make.specs.Going.{Going, added, after_all, beginning, formed_for, place_of, right_root, taking_back}
use Rattle.dmn_make.specs.Outcome.{EndsWell}
use Rattle.dmn_make.specs.Steps.{all_steps}
use Rattle.dmn_make.specs.Text.{make_text}
use Rattle.dmn_make.specs.declared.step.Step.{Step}
use Rattle.dmn_make.specs.declared.step.Step.TheVariants.{Add, Pin, TakeBack, Tell}

-- ---- enough room

-- the machine's journal with this command, if there is one, fits files that may be so long
abbrev pub HasPlace : Machine → Option Entry → ℕ → Type 0
HasPlace m None room = Unit {0}
HasPlace m (Some entry) room = length (journal_text m.start (m.commands ++ entry ∷ [])) ≤ room

-- with the block that has this body for a root of the list: zeros, and the right one where that is told
pub record HasPlaceForBlock (body : Hash256 → List ℕ) (m : Machine) (room : ℕ) : Type 0 where
  pub zeros : HasPlace m (Some (connecting (body no_hash))) room
  pub right : (root : Hash256) → right_root (added (body no_hash) m).0 ≡ Some root → HasPlace m (Some (connecting (body root))) room

-- with what a step asks for
abbrev pub HasPlaceFor : ℕ → Step → Machine → ℕ → Type 0
HasPlaceFor count (Add chain height) m room = HasPlaceForBlock (body_of count (place_of chain m height) (formed_for m height)) m room
HasPlaceFor count TakeBack m room = HasPlace m (entry_by (taking_back m)) room
HasPlaceFor count (Pin height) m room = Unit {0}
HasPlaceFor count (Tell from) m room = Unit {0}

-- before a step: room for that, and for a snapshot
pub record HasRoomFor (count : ℕ) (step : Step) (m : Machine) (room : ℕ) : Type 0 where
  pub journal : HasPlaceFor count step m room
  pub snapshot : SnapshotsFit m room

-- before each of these steps, on the way from g
abbrev pub HasRoomForAll : ℕ → List Step → Going → ℕ → Type 0
HasRoomForAll count steps g room = (done : List Step) (step : Step) (left : List Step) → steps ≡ done ++ step ∷ left → HasRoomFor count step (after_all count done g).machine room

-- So many bytes more may be sent, and files may be so long: this is enough for a run with so many masternodes.
pub record Suffices (count line_room disk_room : ℕ) : Type 0 where
  pub sends : length (make_text count) ≤ line_room
  pub keeps : HasRoomForAll count all_steps beginning disk_room

-- ---- a run

-- no call failed, and on a blank file 0 all was sent, or memory ran out
pub record EndsSurely (status : Status) (before after : DiskView) (old new : LineView) : Type 0 where
  pub never : NeverFaults status before after old new
  pub well : IfReads before.told (λ all. IsBlank all.zeroth) → EndsWell status
