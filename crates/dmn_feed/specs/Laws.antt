-- What the definitions say of each other.
use Rattle.std.specs.Prelude.{◌≡◌, ◌≢◌, ℕ, Bool, true, List, [], ◌∷◌, ◌++◌, length, map, nat_lt, if◌then◌else◌}
use Rattle.std.specs.List.{All, flat_map}
use Rattle.dmn_outside.specs.Disk.{DiskView}
use Rattle.dmn_outside.specs.Line.{LineView}
use Rattle.dmn_desk.specs.declared.answer.Answer.{Answer}
use Rattle.dmn_desk.specs.declared.answer.Answer.TheVariants.{Short}
use Rattle.dmn_desk.specs.declared.answer.ShortAnswer.TheVariants.{Memory}
use Rattle.dmn_desk.specs.Texts.{Fits, body_of, frame_of, status_of as status_number}
use Rattle.dmn_frames.specs.Frames.{Cuts, Frame}
use Rattle.dmn_registry.specs.Machine.{Machine}
use Rattle.dmn_status.specs.declared.status.Status.{Status}
use Rattle.dmn_status.specs.declared.status.Status.TheVariants as statuses
use Rattle.dmn_office.specs.Lasting.{IsLasting}
use Rattle.dmn_feed.specs.Outcome.{Outcome, most}
use Rattle.dmn_feed.specs.Serving.{Serves}

-- ---- statuses

-- how a run ends at the end of its input, by what is left of a frame
abbrev pub ended_with : List ℕ → Status
ended_with [] = statuses.Done
ended_with (byte ∷ left) = statuses.CutInput

-- how a run ends that answers all frames of a text, by these frames and what is left of the text
abbrev pub status_of : List Frame → List ℕ → Status
status_of frames left = if nat_lt (length frames) most then ended_with left else statuses.Enough

-- a status other than a fault, a want of memory or a refusal to begin is the text's own
abbrev pub EndsExactly : Status → List Frame → List ℕ → Type 0
EndsExactly statuses.Done frames left = status_of frames left ≡ statuses.Done
EndsExactly statuses.CutInput frames left = status_of frames left ≡ statuses.CutInput
EndsExactly statuses.Enough frames left = status_of frames left ≡ statuses.Enough
EndsExactly statuses.LineFault frames left = Unit {0}
EndsExactly statuses.DiskFault frames left = Unit {0}
EndsExactly statuses.Memory frames left = Unit {0}
EndsExactly (statuses.NotJournal place) frames left = Unit {0}
EndsExactly statuses.Words frames left = Unit {0}
EndsExactly (statuses.StartForm place) frames left = Unit {0}
EndsExactly statuses.AlreadyInit frames left = Unit {0}

-- a run whose devices do not fail and that finds the memory to start ends as its text says
abbrev pub EndsAs : Status → List Frame → List ℕ → Type 0
EndsAs status frames left = status ≢ statuses.LineFault → status ≢ statuses.DiskFault → status ≢ statuses.Memory → status ≡ status_of frames left

abbrev pub StatusesAreExact : Type 0
StatusesAreExact = (status : Status) (stamped : Bool) (started : ℕ) (m : Machine) (before disk : DiskView) (old new : LineView) (frames : List Frame) (left : List ℕ)
    → Outcome status stamped started m before disk old new → Cuts old.talk.left frames left → (EndsExactly status frames left × EndsAs status frames left)

-- what is served to frames is served to each front of them, with a machine between
abbrev pub EachFrontIsServed : Type 0
EachFrontIsServed = (disk : DiskView) (last m : Machine) (frames more : List Frame) (answers : List Answer) (moments : List ℕ) (n : Machine) → Serves (IsLasting disk last) m (frames ++ more) answers moments n
    → (front rest : List Answer) × (here later : List ℕ) × (mid : Machine) × (answers ≡ front ++ rest) × (moments ≡ here ++ later) × Serves (IsLasting disk last) m frames front here mid × Serves (IsLasting disk last) mid more rest later n

-- ---- which answers are Memory

-- an answer as a frame: a status, and a body
abbrev pub as_frame : Answer → Frame
as_frame answer = record { kind = status_number answer; body = body_of answer }

-- The text of answers is cut into as many frames, and in no other way; and status 1 is that of Memory alone.
abbrev pub AnswersTellOfMemory : Type 0
AnswersTellOfMemory = (answers : List Answer) → All Fits answers → Cuts (flat_map frame_of answers) (map as_frame answers) []
    × ((frames : List Frame) (left : List ℕ) → Cuts (flat_map frame_of answers) frames left → (frames ≡ map as_frame answers) × (left ≡ []))
    × ((answer : Answer) → status_number answer ≡ 1 → answer ≡ Short Memory)
