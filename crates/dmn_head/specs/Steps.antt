-- What the private functions give.
use Rattle.std.specs.Prelude.{◌≡◌, ℕ, ◌+◌, ◌-◌, ◌<◌, ◌≤◌, true, false, List, [], take, drop, length, Option, Some, None, Result, Ok, Err}
use Rattle.dmn_outside.specs.declared.line.Failed.{Failed}
use Rattle.dmn_outside.specs.Line.{Talk}
use Rattle.dmn_outside.specs.Pieces.{Took}
use Rattle.dmn_head.specs.declared.head.Cut.{Cut}
use Rattle.dmn_head.specs.declared.head.Cut.TheVariants as cuts
use Rattle.dmn_head.specs.declared.head.Taken.{Taken}
use Rattle.dmn_head.specs.Head.{ends_at, NoEnd, IsCut, head_limit}

-- the first CR LF CR LF that begins at this place or later
abbrev pub FindsFrom : ℕ → List ℕ → Option ℕ → Type 0
FindsFrom from text (Some size) = (from + 4 ≤ size) × (size ≤ length text) × (ends_at text (size - 4) ≡ true) × ((k : ℕ) → from ≤ k → k + 4 < size → ends_at text k ≡ false)
FindsFrom from text None = (k : ℕ) → from ≤ k → k + 4 ≤ length text → ends_at text k ≡ false

-- the head lies within what was taken
abbrev pub LiesWithin : Cut → ℕ → Type 0
LiesWithin (cuts.Whole size) filled = size ≤ filled
LiesWithin cuts.TooLong filled = filled ≡ head_limit
LiesWithin cuts.Short filled = filled < head_limit

-- all of the input was taken
abbrev pub EndsIfShort : Cut → List ℕ → Type 0
EndsIfShort (cuts.Whole size) left = Unit {0}
EndsIfShort cuts.TooLong left = Unit {0}
EndsIfShort cuts.Short left = left ≡ []

-- so many bytes were taken, they stand at the front of the buffer, and the head of the caller's input is this
pub record TookHead (taken : Taken) (buffer : List ℕ) (old new : Talk) : Type 0 where
  pub took : Took taken.filled old new
  pub same : take taken.filled buffer ≡ take taken.filled old.left
  pub cut : IsCut old.left taken.cut
  pub ended : EndsIfShort taken.cut new.left

-- a fault before a head's end had come
pub record BrokeHead (old new : Talk) : Type 0 where
  pub taken : ℕ
  pub few : taken < head_limit
  pub enough : taken ≤ length old.left
  pub open_ : NoEnd taken old.left
  pub after : new ≡ record old { left = drop taken old.left; own = new.own }
  pub own : 0 < new.own

abbrev pub TakesHead : Result Taken Failed → List ℕ → Talk → Talk → Type 0
TakesHead (Ok taken) buffer old new = TookHead taken buffer old new
TakesHead (Err failed) buffer old new = BrokeHead old new
