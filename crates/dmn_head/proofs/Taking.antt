-- Bytes that are taken one piece after another.
use Rattle.std.proofs.Common.{◌≡◌, ℕ, ◌+◌, ◌-◌, ◌≤◌, List, ◌++◌, length, take, drop, sym, ap, ◌∙◌, arith}
use Rattle.std.proofs.lemmas.List.{drop-drop, length-drop, length-take, take-append-le}
use Rattle.std.proofs.Math.Seq.{take-add, take-append-add}
use Rattle.dmn_outside.specs.Line.{Talk, Gives}
use Rattle.dmn_outside.specs.Pieces.{Took}

-- what was taken, and then a piece
pub took_more : (a n b : ℕ) (buffer : List ℕ) (x y z : Talk) → b ≡ a + n → Took a x y → Gives n buffer y z → Took b x z
took_more a n b buffer x y z e t g =
    let left : y.left ≡ drop a x.left = ap (λ (s : Talk). s.left) t.after in
    let len : length y.left ≡ length x.left - a = ap length left ∙ length-drop a x.left in
    record {
      enough = omega (arith, g.enough, t.enough, len, e);
      after = g.after ∙ ap (λ (s : Talk). record s { left = drop n s.left }) t.after ∙ ap (λ (l : List ℕ). record x { left = l }) (drop-drop n a x.left ∙ ap (λ (k : ℕ). drop k x.left) (sym e));
    }

-- the bytes that were taken are at the front of the buffer
pub record FilledSoFar (n : ℕ) (buffer : List ℕ) (old new : Talk) : Type 0 where
  pub took : Took n old new
  pub same : take n buffer ≡ take n old.left

pub filled_more : (a n b : ℕ) (buffer piece post : List ℕ) (x y z : Talk) → b ≡ a + n → a ≤ length buffer → n ≤ length piece → FilledSoFar a buffer x y → Gives n piece y z → FilledSoFar b (take a buffer ++ (piece ++ post)) x z
filled_more a n b buffer piece post x y z e within room f g =
    let left : y.left ≡ drop a x.left = ap (λ (s : Talk). s.left) f.took.after in
    let len : length (take a buffer) ≡ a = omega (arith, length-take a buffer) in
    let front : take (a + n) (take a buffer ++ (piece ++ post)) ≡ take a buffer ++ take n (piece ++ post) = ap (λ (k : ℕ). take (k + n) (take a buffer ++ (piece ++ post))) (sym len) ∙ take-append-add (take a buffer) (piece ++ post) n in
    record {
      took = took_more a n b piece x y z e f.took g;
      same = ap (λ (k : ℕ). take k (take a buffer ++ (piece ++ post))) e ∙ front ∙ rw (take-append-le n piece post room, f.same, g.given, left) (sym (take-add a n x.left) ∙ ap (λ (k : ℕ). take k x.left) (sym e));
    }
