-- What sending takes from the room of a line that tells how many bytes more may be sent.
use Rattle.std.specs.Prelude.{◌≡◌, ℕ, ◌+◌, length}
use Rattle.dmn_outside.specs.Line.{LineView}

-- what was sent is what was taken from the room, and no call failed
pub record SpendsSent (before now : ℕ) (old new : LineView) : Type 0 where
  pub room : now + length new.talk.sent ≡ before + length old.talk.sent
  pub faults : new.faults ≡ old.faults
