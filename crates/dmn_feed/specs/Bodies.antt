-- How much of a frame's body is read, and what is done with the frame by what was kept of it.
use Rattle.std.specs.Prelude.{◌≡◌, ℕ, ◌≤◌, false, List, length, None, Some, Result, Ok, Err}
use Rattle.dmn_outside.specs.Disk.{DiskView}
use Rattle.dmn_outside.specs.declared.device.DiskFault.{DiskFault}
use Rattle.dmn_journal.specs.Reading.{entry_departs}
use Rattle.dmn_desk.specs.declared.answer.Answer.{Answer}
use Rattle.dmn_desk.specs.declared.answer.Answer.TheVariants.{Short}
use Rattle.dmn_desk.specs.declared.answer.ShortAnswer.TheVariants.{Memory}
use Rattle.dmn_desk.specs.Ask.{answer_of, answered}
use Rattle.dmn_desk.specs.Asked.{OrMemory}
use Rattle.dmn_desk.specs.Kinds.{kind_of, takes_no_memory}
use Rattle.dmn_frames.specs.Reading.{kept_of}
use Rattle.dmn_frames.specs.declared.limits.TheConstants.{LONGEST_BODY}
use Rattle.dmn_frames.specs.declared.reading.Reading.{Reading}
use Rattle.dmn_frames.specs.declared.reading.Reading.TheVariants.{Whole}
use Rattle.dmn_office.specs.declared.office.Office.{Office}
use Rattle.dmn_office.specs.Offices.{Breaks, GoesOn, StandsAt}
use Rattle.dmn_registry.specs.Machine.{Machine}

-- The answer to a frame of this kind and size hangs on what is kept of its body alone; one that is read whole may be answered
-- Memory; and a body of which an entry of the journal is made is kept whole.
pub record Decides (reading : Reading) (kind size : ℕ) : Type 0 where
  pub same : (m : Machine) (body : List ℕ) → length body ≡ size → answer_of m kind body ≡ answered m kind size (kept_of reading body)
  pub lacks : reading ≡ Whole → takes_no_memory (kind_of kind) ≡ false
  pub entry : size ≤ LONGEST_BODY → (body : List ℕ) → entry_departs (record { kind = kind; body = kept_of reading body }) ≡ None → kept_of reading body ≡ body

-- by what was kept of the body of a frame of this kind and size
abbrev pub Gives : Result Answer DiskFault → ℕ → ℕ → List ℕ → ℕ → DiskView → DiskView → Office → Office → Type 0
Gives (Ok answer) kind size kept started before after old new =
    (m : Machine) → StandsAt old m before.told → (n : Machine) × OrMemory (Short Memory) (takes_no_memory (kind_of kind)) (answered m kind size kept) m answer n × GoesOn started before after m n new
Gives (Err fault) kind size kept started before after old new =
    (size ≤ LONGEST_BODY) × ((m : Machine) → StandsAt old m before.told → Breaks started before after m (Some (record { kind = kind; body = kept })))
