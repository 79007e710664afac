-- The end of a head, in bytes that are taken one piece after another.
use Rattle.std.proofs.Common.{◌≡◌, ℕ, ◌+◌, ◌-◌, ◌<◌, ◌≤◌, List, [], ◌++◌, length, take, drop, refl, sym, ap, ◌∙◌, arith, get_or, inl, inr, Some, None}
use Rattle.std.proofs.lemmas.Bool.{cases_lt}
use Rattle.std.proofs.lemmas.List.{get_or-take, length-take, length-drop, take-append-le, take-take}
use Rattle.dmn_outside.specs.Line.{Talk, Gives}
use Rattle.dmn_head.proofs.Taking.{FilledSoFar, filled_more}
use Rattle.dmn_head.specs.Head.{ends_at, NoEnd, IsCut, head_limit}
use Rattle.dmn_head.specs.Steps.{FindsFrom, TookHead}
use Rattle.dmn_head.specs.declared.head.Cut.TheVariants as cuts

pub ends_at-take : (m : ℕ) (text : List ℕ) (k : ℕ) → k + 4 ≤ m → ends_at (take m text) k ≡ ends_at text k
ends_at-take m text k le =
    let a : get_or (take m text) k 0 ≡ get_or text k 0 = get_or-take m text k 0 (omega arith) in
    let b : get_or (take m text) (k + 1) 0 ≡ get_or text (k + 1) 0 = get_or-take m text (k + 1) 0 (omega arith) in
    let c : get_or (take m text) (k + 2) 0 ≡ get_or text (k + 2) 0 = get_or-take m text (k + 2) 0 (omega arith) in
    let d : get_or (take m text) (k + 3) 0 ≡ get_or text (k + 3) 0 = get_or-take m text (k + 3) 0 (omega arith) in
    cc

-- two texts with one front have the same ends there
pub ends_at-same : (m : ℕ) (x y : List ℕ) (k : ℕ) → take m x ≡ take m y → k + 4 ≤ m → ends_at x k ≡ ends_at y k
ends_at-same m x y k e le = sym (ends_at-take m x k le) ∙ ap (λ (l : List ℕ). ends_at l k) e ∙ ends_at-take m y k le

pub no_end_same : (m : ℕ) (x y : List ℕ) → take m x ≡ take m y → NoEnd m x → NoEnd m y
no_end_same m x y e none k le = ends_at-same m y x k (sym e) le ∙ none k le

-- the front stays where a piece is put behind it
pub front_kept : (a : ℕ) (buffer rest : List ℕ) → a ≤ length buffer → take a (take a buffer ++ rest) ≡ take a buffer
front_kept a buffer rest le =
    let len : length (take a buffer) ≡ a = omega (arith, length-take a buffer) in
    take-append-le a (take a buffer) rest (omega arith) ∙ take-take a a buffer (omega arith)

-- no end so far, and none in what was looked at now
pub no_end_more : (a b : ℕ) (buffer next : List ℕ) → a ≤ b → b ≤ length next → take a next ≡ take a buffer → NoEnd a buffer → FindsFrom (a - 3) (take b next) None → NoEnd b next
no_end_more a b buffer next le room e old new k fits =
    elim (cases_lt a (k + 4)) [
      | inr before ↦ ends_at-same a next buffer k e before ∙ old k before
      | inl behind ↦ sym (ends_at-take b next k fits) ∙ new k (omega (arith, behind)) (omega (arith, length-take b next, fits))
    ]

-- the first end
pub whole_head : (a b size : ℕ) (buffer next left : List ℕ) → a ≤ b → b ≤ head_limit → b ≤ length next → take a next ≡ take a buffer → NoEnd a buffer → take b next ≡ take b left → FindsFrom (a - 3) (take b next) (Some size) → IsCut left (cuts.Whole size)
whole_head a b size buffer next left le limit room e old same found =
    let within : size ≤ b = omega (arith, found.1, length-take b next) in (
      record {
        four = omega (arith, found.0);
        here = ends_at-same b left next (size - 4) (sym same) (omega (arith, found.0)) ∙ sym (ends_at-take b next (size - 4) (omega (arith, found.0))) ∙ found.2;
        first = λ k before. ends_at-same b left next k (sym same) (omega (arith, before)) ∙ elim (cases_lt a (k + 4)) [
          | inr early ↦ ends_at-same a next buffer k e early ∙ old k early
          | inl late ↦ sym (ends_at-take b next k (omega (arith, before))) ∙ found.3 k (omega (arith, late)) before
        ];
      },
      omega arith,
    )

pub took_whole : (a n size : ℕ) (buffer piece post : List ℕ) (x y z : Talk) → a ≤ length buffer → a + n ≤ head_limit → n ≤ length piece → length (take a buffer ++ (piece ++ post)) ≡ head_limit → FilledSoFar a buffer x y → NoEnd a buffer → Gives n piece y z → FindsFrom (a - 3) (take (a + n) (take a buffer ++ (piece ++ post))) (Some size) → TookHead (record { cut = cuts.Whole size; filled = a + n }) (take a buffer ++ (piece ++ post)) x z
took_whole a n size buffer piece post x y z within limit fits room so_far none gives found =
    let more = filled_more a n (a + n) buffer piece post x y z refl within fits so_far gives in
    record {
      took = more.took;
      same = more.same;
      cut = whole_head a (a + n) size buffer (take a buffer ++ (piece ++ post)) x.left (omega arith) limit (omega (arith, room)) (front_kept a buffer (piece ++ post) within) none more.same found;
      ended = tt;
    }

pub took_short : (a n : ℕ) (buffer piece post : List ℕ) (x y z : Talk) → n ≡ 0 → a < head_limit → a ≤ length buffer → 0 < length piece → FilledSoFar a buffer x y → NoEnd a buffer → Gives n piece y z → TookHead (record { cut = cuts.Short; filled = a }) (take a buffer ++ (piece ++ post)) x z
took_short a n buffer piece post x y z zero few within room so_far none gives =
    let more = filled_more a n a buffer piece post x y z (omega (arith, zero)) within (omega (arith, zero)) so_far gives in
    let gone : y.left ≡ [] = gives.ended zero room in
    let left : y.left ≡ drop a x.left = ap (λ (s : Talk). s.left) so_far.took.after in
    let len : length y.left ≡ length x.left - a = ap length left ∙ length-drop a x.left in
    let ended : length y.left ≡ 0 = ap length gone in
    let all : length x.left ≡ a = omega (arith, len, ended, so_far.took.enough) in
    record {
      took = more.took;
      same = more.same;
      cut = (omega (arith, all), λ k le. no_end_same a buffer x.left so_far.same none k (omega (arith, all, le)));
      ended = ap (λ (s : Talk). s.left) gives.after ∙ ap (λ (m : ℕ). drop m y.left) zero ∙ gone;
    }

pub took_too_much : (a : ℕ) (buffer : List ℕ) (x y : Talk) → a ≡ head_limit → FilledSoFar a buffer x y → NoEnd a buffer → TookHead (record { cut = cuts.TooLong; filled = a }) buffer x y
took_too_much a buffer x y full so_far none = record {
  took = so_far.took;
  same = so_far.same;
  cut = (omega (arith, full, so_far.took.enough), λ k le. no_end_same a buffer x.left so_far.same none k (omega (arith, full, le)));
  ended = tt;
}
