-- An input that is read one piece after another.
use Rattle.std.proofs.Common.{◌≡◌, ℕ, ◌+◌, ◌≤◌, ◌<◌, List, [], ◌++◌, length, take, drop, refl, sym, ap, ◌∙◌, arith}
use Rattle.std.specs.Prelude.{Ok}
use Rattle.std.proofs.lemmas.List.{drop-drop, drop_all, length-append, length-drop, length-take, take-append-le, take_all}
use Rattle.std.proofs.Math.Seq.{take-add}
use Rattle.dmn_outside.specs.Line.{Blames, Gives, Talk}
use Rattle.dmn_outside.specs.Pieces.{Broke, Took}
use Rattle.dmn_init.specs.declared.input.TheConstants.{MOST_READ}
use Rattle.dmn_init.specs.Input.{Inputs}

-- what was read so far
pub record ReadSoFar (text : List ℕ) (old new : Talk) : Type 0 where
  pub took : Took (length text) old new
  pub same : text ≡ take (length text) old.left

pub none_read : (x : Talk) → ReadSoFar [] x x
none_read x = record { took = record { enough = omega arith; after = refl }; same = refl }

-- a piece more, which stands at the front of a buffer
pub read_more : (n : ℕ) (text after out rest : List ℕ) (x y z : Talk) → n ≤ length out → after ≡ text ++ take n (out ++ rest) → ReadSoFar text x y → Gives n out y z → ReadSoFar after x z
read_more n text after out rest x y z room is r g =
    let left : y.left ≡ drop (length text) x.left = ap (λ (s : Talk). s.left) r.took.after in
    let len : length y.left + length text ≡ length x.left = omega (arith, ap length left, length-drop (length text) x.left, r.took.enough) in
    let piece : after ≡ text ++ take n y.left = is ∙ ap (λ (l : List ℕ). text ++ l) (take-append-le n out rest room ∙ g.given) in
    let long : length after ≡ length text + n = omega (arith, ap length piece, length-append text (take n y.left), length-take n y.left, g.enough) in
    record {
      took = record {
        enough = omega (arith, long, g.enough, len);
        after = g.after ∙ ap (λ (s : Talk). record s { left = drop n s.left }) r.took.after ∙ ap (λ (l : List ℕ). record x { left = l }) (drop-drop n (length text) x.left ∙ ap (λ (k : ℕ). drop k x.left) (sym long));
      };
      same = piece ∙ ap (λ (l : List ℕ). text ++ take n l) left ∙ ap (λ (l : List ℕ). l ++ take n (drop (length text) x.left)) r.same ∙ sym (take-add (length text) n x.left) ∙ ap (λ (k : ℕ). take k x.left) (sym long);
    }

-- the most bytes were read
pub read_most : (text : List ℕ) (x y : Talk) → MOST_READ ≤ length text → length text ≤ MOST_READ → ReadSoFar text x y → Inputs (Ok text) x y
read_most text x y most within r =
    let long : length text ≡ MOST_READ = omega (arith, most, within) in
    (r.same ∙ ap (λ (k : ℕ). take k x.left) long, r.took.after ∙ ap (λ (k : ℕ). record x { left = drop k x.left }) long)

-- the input has ended
pub read_all : (n : ℕ) (text out : List ℕ) (x y z : Talk) → n ≡ 0 → length text ≤ MOST_READ → 0 < length out → ReadSoFar text x y → Gives n out y z → Inputs (Ok text) x z
read_all n text out x y z zero within room r g =
    let left : y.left ≡ drop (length text) x.left = ap (λ (s : Talk). s.left) r.took.after in
    let none : y.left ≡ [] = g.ended zero room in
    let few : length x.left ≤ length text = omega (arith, ap length left, ap length none, length-drop (length text) x.left) in
    let fewer : length x.left ≤ MOST_READ = omega (arith, few, within) in
    let rest : z.left ≡ drop MOST_READ x.left = ap (λ (s : Talk). s.left) g.after ∙ ap (λ (k : ℕ). drop k y.left) zero ∙ none ∙ sym (drop_all MOST_READ x.left fewer) in (
      r.same ∙ take_all (length text) x.left few ∙ sym (take_all MOST_READ x.left fewer),
      g.after ∙ ap (λ (s : Talk). record s { left = drop n y.left }) r.took.after ∙ ap (λ (l : List ℕ). record x { left = l }) (sym (ap (λ (s : Talk). s.left) g.after) ∙ rest),
    )

-- the line failed
pub read_broke : (text : List ℕ) (x y z : Talk) → length text < MOST_READ → ReadSoFar text x y → Blames y z → Broke MOST_READ x z
read_broke text x y z below r b =
    let same : z.left ≡ drop (length text) x.left = ap (λ (s : Talk). s.left) b.same ∙ ap (λ (s : Talk). s.left) r.took.after in
    record {
      taken = length text;
      few = below;
      enough = r.took.enough;
      after = b.same ∙ ap (λ (s : Talk). record s { own = z.own }) r.took.after;
      own = b.own;
    }

-- memory ran out behind a piece
pub read_lacks : (n : ℕ) (text out : List ℕ) (x y z : Talk) → ReadSoFar text x y → Gives n out y z → Took (length text + n) x z
read_lacks n text out x y z r g =
    let left : y.left ≡ drop (length text) x.left = ap (λ (s : Talk). s.left) r.took.after in
    record {
      enough = omega (arith, g.enough, r.took.enough, ap length left, length-drop (length text) x.left);
      after = g.after ∙ ap (λ (s : Talk). record s { left = drop n s.left }) r.took.after ∙ ap (λ (l : List ℕ). record x { left = l }) (drop-drop n (length text) x.left);
    }
