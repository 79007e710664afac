-- What the definitions say of each other.
use Rattle.std.specs.Prelude.{◌≡◌, ◌≢◌, ℕ, List, [], ◌∷◌, ◌++◌, length, map, nat_lt, if◌then◌else◌}
use Rattle.std.specs.List.{All, flat_map}
use Rattle.dmn_client.specs.Step.{ClientState, new_client}
use Rattle.dmn_frames.specs.Frames.{Frame, Cuts}
use Rattle.dmn_outside.specs.Line.{Talk}
use Rattle.dmn_light.specs.declared.answer.Answer.{Answer}
use Rattle.dmn_status.specs.declared.status.Status.{Status}
use Rattle.dmn_status.specs.declared.status.Status.TheVariants as statuses
use Rattle.dmn_light.specs.Answers.{Fits, body_of, frame_of, lack, status_of}
use Rattle.dmn_light.specs.Outcome.{Outcome, most}
use Rattle.dmn_light.specs.Serving.{Serves, client_bytes}

-- how a run ends at the end of its input, by what is left of a frame
abbrev pub ended_with : List ℕ → Status
ended_with [] = statuses.Done
ended_with (byte ∷ left) = statuses.CutInput

-- how a run ends that answers all frames of a text, by these frames and what is left of the text
abbrev pub ending_of : List Frame → List ℕ → Status
ending_of frames left = if nat_lt (length frames) most then ended_with left else statuses.Enough

-- an ending other than a fault is the text's own
abbrev pub EndsExactly : Status → List Frame → List ℕ → Type 0
EndsExactly status frames left = status ≢ statuses.LineFault → status ≡ ending_of frames left

abbrev pub EndingsAreExact : Type 0
EndingsAreExact = (status : Status) (old new : Talk) (frames : List Frame) (left : List ℕ) → Outcome status old new → Cuts old.left frames left → EndsExactly status frames left

-- what is served to frames is served to each front of them, with a client between
abbrev pub EachFrontIsServed : Type 0
EachFrontIsServed = (c : ClientState) (frames more : List Frame) (answers : List Answer) (n : ClientState) → Serves c (frames ++ more) answers n
    → (front rest : List Answer) × (mid : ClientState) × (answers ≡ front ++ rest) × Serves c frames front mid × Serves mid more rest n

-- answers of which none is Memory are the client's own
abbrev pub BytesWithoutMemory : Type 0
BytesWithoutMemory = (frames : List Frame) (answers : List Answer) (n : ClientState) → Serves new_client frames answers n → All (λ answer. answer ≢ lack) answers → flat_map frame_of answers ≡ client_bytes frames

-- ---- which answers are Memory

-- an answer as a frame: a status, and a body
abbrev pub as_frame : Answer → Frame
as_frame answer = record { kind = status_of answer; body = body_of answer }

-- The text of answers is cut into as many frames, and in no other way; and status 1 is that of Memory alone.
abbrev pub AnswersTellOfMemory : Type 0
AnswersTellOfMemory = (answers : List Answer) → All Fits answers → Cuts (flat_map frame_of answers) (map as_frame answers) []
    × ((frames : List Frame) (left : List ℕ) → Cuts (flat_map frame_of answers) frames left → (frames ≡ map as_frame answers) × (left ≡ []))
    × ((answer : Answer) → status_of answer ≡ 1 → answer ≡ lack)
