-- A line after some calls of `take` and `send`, whatever they answered: what holds of it besides its bytes.
use Rattle.std.specs.Prelude.{◌≡◌, ℕ, Bool, true, ◌≤◌, List, ◌++◌, All}
use Rattle.dmn_outside.specs.Counts.{IsBetween}
use Rattle.dmn_outside.specs.Line.{LineView, Moments}

-- more bytes were sent, each at a moment from this one to that one
pub record StampsSince (from to : ℕ) (old new : Moments) : Type 0 where
  pub more : List ℕ
  pub each : All (IsBetween from to) more
  pub after : new ≡ record old { sent = old.sent ++ more }

-- Calls that send nothing: no count fell, that of callers' faults is as before, and so are the moments of sends.
pub record IsQuiet (tells_moments : Bool) (from to : ℕ) (old new : LineView) : Type 0 where
  pub faults : old.faults ≤ new.faults
  pub callers : new.caller_faults ≡ old.caller_faults
  pub time : from ≤ to
  pub moments : tells_moments ≡ true → new.moments ≡ old.moments

-- From this moment to that one no count fell, that of callers' faults is as before, and each byte that was sent has a
-- moment of that time.
pub record IsLater (tells_moments : Bool) (from to : ℕ) (old new : LineView) : Type 0 where
  pub faults : old.faults ≤ new.faults
  pub callers : new.caller_faults ≡ old.caller_faults
  pub time : from ≤ to
  pub moments : tells_moments ≡ true → StampsSince from to old.moments new.moments
