-- What a run over a line that tells its bytes has read and sent, by how it ended.
use Rattle.std.specs.Prelude.{◌≡◌, ◌≢◌, ◌⊎◌, ℕ, ◌<◌, List, [], ◌++◌, length, take, drop, None, Some}
use Rattle.std.specs.List.{All, flat_map}
use Rattle.dmn_client.specs.Step.{ClientState, new_client}
use Rattle.dmn_frames.specs.Frames.{Frame, Begins, frame_at}
use Rattle.dmn_outside.specs.Line.{Talk}
use Rattle.dmn_light.specs.declared.answer.Answer.{Answer}
use Rattle.dmn_status.specs.declared.status.Status.{Status}
use Rattle.dmn_status.specs.declared.status.Status.TheVariants as statuses
use Rattle.dmn_light.specs.Answers.{Fits, frame_of}
use Rattle.dmn_light.specs.Serving.{MayAnswer, Serves}

-- The text begins with these frames, and this is left behind them; from a new client on these bytes are their answers, in
-- order, and this is what is held after them. Each answer's length fits its field.
pub record Answered (text : List ℕ) (frames : List Frame) (left bytes : List ℕ) (holds : ClientState) : Type 0 where
  pub front : Begins text frames left
  pub answers : List Answer
  pub serves : Serves new_client frames answers holds
  pub fit : All Fits answers
  pub bytes_are : bytes ≡ flat_map frame_of answers

-- all of these bytes were sent, this is still to come, and nothing else changed
abbrev pub Sent : List ℕ → List ℕ → Talk → Talk → Type 0
Sent left bytes old new = new ≡ record old { left = left; sent = old.sent ++ bytes }

-- as many frames as one run answers
abbrev pub most : ℕ
most = 4294967295

-- ---- a fault

-- a fault before the next frame was taken whole: some of its bytes were taken, and nothing more was sent
pub record BreaksBefore (left part rest : List ℕ) : Type 0 where
  pub taken : ℕ
  pub rest_is : rest ≡ drop taken left
  pub none : part ≡ []

-- a fault within the answer to the next frame, which was taken whole: a front of the answer was sent, less than all of it
pub record BreaksWithin (left part rest : List ℕ) (c : ClientState) : Type 0 where
  pub frame : Frame
  pub answer : Answer
  pub holds : ClientState
  pub front : frame_at left ≡ Some (frame, rest)
  pub may : MayAnswer c frame answer holds
  pub count : ℕ
  pub few : count < length (frame_of answer)
  pub part_is : part ≡ take count (frame_of answer)

-- A run that a fault of this caller's broke off: all frames but at most the last one taken were answered whole, and this
-- part of the last one's answer was sent behind their answers. Nothing else changed.
pub record BrokeOff (old new : Talk) : Type 0 where
  pub frames : List Frame
  pub left : List ℕ
  pub bytes : List ℕ
  pub holds : ClientState
  pub answered : Answered old.left frames left bytes holds
  pub few : length frames < most
  pub part : List ℕ
  pub last : BreaksBefore left part new.left ⊎ BreaksWithin left part new.left holds
  pub own : 0 < new.own
  pub after : new ≡ record old { left = new.left; sent = old.sent ++ (bytes ++ part); own = new.own }

-- ---- by the ending

abbrev pub Outcome : Status → Talk → Talk → Type 0
-- each byte belongs to a frame, and each frame was answered
Outcome statuses.Done old new = (frames : List Frame) × (bytes : List ℕ) × (holds : ClientState) × Answered old.left frames [] bytes holds × (length frames < most) × Sent [] bytes old new
-- the same, and a part of a frame was left
Outcome statuses.CutInput old new = (frames : List Frame) × (left bytes : List ℕ) × (holds : ClientState) × Answered old.left frames left bytes holds × (length frames < most) × (left ≢ []) × (frame_at left ≡ None) × Sent [] bytes old new
-- the most frames were answered
Outcome statuses.Enough old new = (frames : List Frame) × (left bytes : List ℕ) × (holds : ClientState) × Answered old.left frames left bytes holds × (length frames ≡ most) × Sent left bytes old new
-- a front of the answers was sent
Outcome statuses.LineFault old new = BrokeOff old new
-- it ends in no other way
Outcome status old new = ⊥

-- how a run may end
abbrev pub IsEnding : Status → Type 0
IsEnding statuses.Done = Unit {0}
IsEnding statuses.CutInput = Unit {0}
IsEnding statuses.Enough = Unit {0}
IsEnding statuses.LineFault = Unit {0}
IsEnding status = ⊥
