-- Runs over a line that tells how many bytes more may be sent.
use Rattle.std.specs.Prelude.{◌≡◌, ◌≢◌, ℕ, ◌≤◌, List, length}
use Rattle.dmn_client.specs.Step.{ClientState}
use Rattle.dmn_frames.specs.Frames.{Frame, Cuts}
use Rattle.dmn_outside.specs.Line.{LineView}
use Rattle.dmn_status.specs.declared.status.Status.{Status}
use Rattle.dmn_status.specs.declared.status.Status.TheVariants.{LineFault}
use Rattle.dmn_light.specs.Laws.{ending_of}
use Rattle.dmn_light.specs.Outcome.{Answered}

-- so much room is enough for whatever bytes may answer frames that the text begins with
abbrev pub Suffices : ℕ → List ℕ → Type 0
Suffices room text = (frames : List Frame) (left bytes : List ℕ) (holds : ClientState) → Answered text frames left bytes holds → length bytes ≤ room

-- no call failed
pub record NeverFaults (status : Status) (old new : LineView) : Type 0 where
  pub runs : status ≢ LineFault
  pub faults : new.faults ≡ old.faults

-- no call failed, and the run ended as its text says
pub record EndsSurely (status : Status) (old new : LineView) : Type 0 where
  pub ending_is : (frames : List Frame) (left : List ℕ) → Cuts old.talk.left frames left → status ≡ ending_of frames left
  pub faults : new.faults ≡ old.faults
  pub callers : new.caller_faults ≡ old.caller_faults
