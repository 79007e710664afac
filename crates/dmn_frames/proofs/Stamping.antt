-- The moments of what a turn sends.
use Rattle.std.proofs.Common.{◌≡◌, ℕ, List, [], ◌++◌, sym, ap, ◌∙◌, arith}
use Rattle.std.proofs.lemmas.List.{append-nil}
use Rattle.std.proofs.lemmas.List.Elements.{All-nil, All-weaker}
use Rattle.dmn_outside.specs.Counts.{IsBetween, Rose}
use Rattle.dmn_outside.specs.Line.{Moments}
use Rattle.dmn_outside.specs.Pieces.{StampsAfter}
use Rattle.dmn_frames.specs.Stamps.{IsBehind, StampsBehind}

is_behind : (from read to m : ℕ) → Rose from read → IsBetween read to m → IsBehind from to m
is_behind from read to m rose h = record { behind = omega (arith, h.since, rose); until = h.until }

-- a frame was read, and then bytes were sent
pub stamps_behind : (from read to n : ℕ) (x a z : Moments) → Rose from read → a ≡ x → StampsAfter read to n a z → StampsBehind from to x z
stamps_behind from read to n x a z rose same s = record {
  more = s.more;
  each = All-weaker (IsBetween read to) (IsBehind from to) (λ m h. is_behind from read to m rose h) s.more s.each;
  after = s.after ∙ ap (λ (m : Moments). record m { sent = m.sent ++ s.more }) same;
}

-- nothing was sent
pub behind_none : (from to : ℕ) (x y : Moments) → y ≡ x → StampsBehind from to x y
behind_none from to x y e = record { more = []; each = All-nil (IsBehind from to); after = e ∙ ap (λ (l : List ℕ). record x { sent = l }) (sym (append-nil x.sent)) }
