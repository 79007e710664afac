-- What the private parts of a turn do to a line that tells its bytes.
use Rattle.std.specs.Prelude.{◌≡◌, ◌≢◌, ◌⊎◌, ℕ, ◌<◌, List, [], ◌++◌, length, take, Option, None, Some, Result, Ok, Err}
use Rattle.dmn_client.specs.Step.{ClientState}
use Rattle.dmn_frames.specs.declared.reading.Reading.{Reading}
use Rattle.dmn_frames.specs.Reading.{kept_of}
use Rattle.dmn_frames.specs.Frames.{Frame, frame_at}
use Rattle.dmn_frames.specs.Room.{SpendsSent}
use Rattle.dmn_frames.specs.Steps.{Emptied, Faulted, SentPart}
use Rattle.dmn_outside.specs.declared.line.Failed.{Failed}
use Rattle.dmn_outside.specs.Line.{LineView, Talk}
use Rattle.dmn_outside.specs.Pieces.{Took, Ended as CutShort}
use Rattle.dmn_light.specs.declared.answer.Answer.{Answer}
use Rattle.dmn_light.specs.declared.run.Turn.{Turn}
use Rattle.dmn_light.specs.declared.run.Turn.TheVariants as turns
use Rattle.dmn_light.specs.Answers.{Fits, frame_of}
use Rattle.dmn_light.specs.Ask.{answer_of, answered}
use Rattle.dmn_light.specs.Serving.{MayAnswer}

-- the answer to a frame of this kind and size hangs on what is kept of its body alone
abbrev pub Decides : Reading → ℕ → ℕ → Type 0
Decides reading kind size = (c : ClientState) (body : List ℕ) → length body ≡ size → answer_of c kind body ≡ answered c kind size (kept_of reading body)

-- the frame's body was taken, and the frame may be answered so
pub record Asked (c : ClientState) (kind size : ℕ) (answer : Answer) (n : ClientState) (old new : Talk) : Type 0 where
  pub took : Took size old new
  pub may : MayAnswer c (record { kind = kind; body = take size old.left }) answer n

abbrev pub Asks : Result (Option Answer) Failed → ClientState → ℕ → ℕ → ClientState → Talk → Talk → Type 0
Asks (Ok (Some answer)) c kind size n old new = Asked c kind size answer n old new
Asks (Ok None) c kind size n old new = CutShort size old new
Asks (Err failed) c kind size n old new = Faulted old new

-- a frame at the front may be answered so, and this is left behind it
pub record Turned (c : ClientState) (answer : Answer) (n : ClientState) (text left : List ℕ) : Type 0 where
  pub frame : Frame
  pub front : frame_at text ≡ Some (frame, left)
  pub may : MayAnswer c frame answer n
  pub fits : Fits answer

abbrev pub Turns : Result Turn Failed → ClientState → ClientState → Talk → Talk → Type 0
Turns (Ok turns.Answered) c n old new = (answer : Answer) × Turned c answer n old.left new.left × (new ≡ record old { left = new.left; sent = old.sent ++ frame_of answer })
Turns (Ok turns.Ended) c n old new = (old.left ≡ []) × Emptied old new
Turns (Ok turns.Cut) c n old new = (old.left ≢ []) × (frame_at old.left ≡ None) × Emptied old new
Turns (Err failed) c n old new = Faulted old new ⊎ ((answer : Answer) × Turned c answer n old.left new.left × SentPart (frame_of answer) old new)

-- a turn fails where the next frame's answer does not fit the room, and nowhere else
abbrev pub TurnsSurely : Result Turn Failed → ClientState → ℕ → ℕ → LineView → LineView → Type 0
TurnsSurely (Ok turn) c before now old new = SpendsSent before now old new
TurnsSurely (Err failed) c before now old new = (answer : Answer) × (n : ClientState) × (left : List ℕ) × Turned c answer n old.talk.left left × (before < length (frame_of answer))
