-- A line after some callers, whatever was told and answered: what holds of it besides its bytes, and when replies are sent.
use Rattle.std.specs.Prelude.{◌≡◌, ℕ, ◌≤◌, Bool, true, List, [], ◌∷◌, ◌++◌}
use Rattle.std.specs.List.{All}
use Rattle.dmn_frames.specs.Stamps.{IsBehind}
use Rattle.dmn_outside.specs.Counts.{IsBetween}
use Rattle.dmn_outside.specs.Line.{LineView, Moments}
use Rattle.dmn_serve.specs.Outcome.{all_moments}

-- The moments of what each caller was sent, turn by turn: a turn begins where the one before ended, and what it sends is behind
-- its beginning.
abbrev pub InTurns : ℕ → List (List ℕ) → ℕ → Type 0
InTurns from [] to = from ≤ to
InTurns from (here ∷ later) to = (mid : ℕ) × All (IsBehind from mid) here × InTurns mid later to

-- callers came, and were sent what they were sent turn by turn, from this moment to that one; nothing was sent to those before
pub record SentInTurns (from to : ℕ) (old new : Moments) : Type 0 where
  pub more : List (List ℕ)
  pub within : All (All (IsBetween from to)) more
  pub turns : InTurns from more to
  pub after : all_moments new ≡ all_moments old ++ more

-- From this moment to that one no count fell, and each byte that was sent has a moment of that time, in its caller's turn.
pub record IsPassing (tells_moments : Bool) (from to : ℕ) (old new : LineView) : Type 0 where
  pub faults : old.faults ≤ new.faults
  pub callers : old.caller_faults ≤ new.caller_faults
  pub time : from ≤ to
  pub moments : tells_moments ≡ true → SentInTurns from to old.moments new.moments
