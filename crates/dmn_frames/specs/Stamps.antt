-- When what a turn sends is sent: behind the moment at which the turn began.
use Rattle.std.specs.Prelude.{◌≡◌, ℕ, ◌≤◌, List, ◌++◌}
use Rattle.std.specs.List.{All}
use Rattle.dmn_outside.specs.Counts.{Rose}
use Rattle.dmn_outside.specs.Line.{Moments}

-- A moment of a turn that began at `from` and ended at `to`, and not the first one: reading the frame raises the time before
-- anything is sent.
pub record IsBehind (from to moment : ℕ) : Type 0 where
  pub behind : Rose from moment
  pub until : moment ≤ to

-- what was sent in one turn
pub record StampsBehind (from to : ℕ) (old new : Moments) : Type 0 where
  pub more : List ℕ
  pub each : All (IsBehind from to) more
  pub after : new ≡ record old { sent = old.sent ++ more }
