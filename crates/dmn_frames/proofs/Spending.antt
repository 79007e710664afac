-- The room that sending takes, over a line that tells how much is left.
use Rattle.std.proofs.Common.{◌≡◌, ℕ, List, ◌++◌, length, refl, ap, ◌∙◌, arith}
use Rattle.std.proofs.lemmas.List.{length-append}
use Rattle.dmn_outside.specs.Failing.{KeepsRoom, SpendsRoom}
use Rattle.dmn_outside.specs.Line.{LineView}
use Rattle.dmn_frames.specs.Room.{SpendsSent}

-- nothing was sent
pub spent_none : {p q : ℕ} {x y : LineView} → KeepsRoom p q x y → y.talk.sent ≡ x.talk.sent → SpendsSent p q x y
spent_none k same = record { room = omega (arith, k.room, ap length same); faults = k.faults }

-- a frame was taken, and its whole answer sent
pub spent_whole : (bytes : List ℕ) {p q r : ℕ} {x a z : LineView} → KeepsRoom p q x a → SpendsRoom (length bytes) q r a z → a.talk.sent ≡ x.talk.sent → z.talk.sent ≡ a.talk.sent ++ bytes → SpendsSent p r x z
spent_whole bytes {p} {q} {r} {x} {a} {z} k s same more = record {
  room = omega (arith, k.room, s.room, ap length same, ap length more, length-append a.talk.sent bytes);
  faults = s.faults ∙ k.faults;
}

pub spent_then : {p q r : ℕ} {x y z : LineView} → SpendsSent p q x y → SpendsSent q r y z → SpendsSent p r x z
spent_then s t = record { room = omega (arith, s.room, t.room); faults = t.faults ∙ s.faults }

pub spent_nothing : (p : ℕ) (x : LineView) → SpendsSent p p x x
spent_nothing p x = record { room = refl; faults = refl }
