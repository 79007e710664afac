-- Counts, time and the moments of replies, turn by turn.
use Rattle.std.proofs.Common.{◌≡◌, ℕ, ◌≤◌, Bool, true, List, [], ◌∷◌, ◌++◌, refl, sym, ap, ◌∙◌, append_assoc, arith}
use Rattle.std.specs.List.{All}
use Rattle.std.proofs.lemmas.List.{append-nil}
use Rattle.std.proofs.lemmas.List.Elements.{All-append, All-nil, All-push, All-weaker}
use Rattle.dmn_frames.specs.Stamps.{IsBehind}
use Rattle.dmn_outside.specs.Counts.{IsBetween, Rose}
use Rattle.dmn_outside.specs.Later.{IsLater}
use Rattle.dmn_outside.specs.Line.{LineView, Moments}
use Rattle.dmn_outside.proofs.Passing.{all_wider}
use Rattle.dmn_serve.specs.Outcome.{all_moments}
use Rattle.dmn_serve.specs.Passing.{InTurns, IsPassing, SentInTurns}

turns_on : (a b c : ℕ) (xs ys : List (List ℕ)) → InTurns a xs b → InTurns b ys c → InTurns a (xs ++ ys) c
turns_on a b c [] ys one two = begin_earlier a b c ys one two
  where
    begin_earlier : (a b c : ℕ) (ys : List (List ℕ)) → a ≤ b → InTurns b ys c → InTurns a ys c
    begin_earlier a b c [] le two = omega (arith, le, two)
    begin_earlier a b c (y ∷ ys) le two = (two.0, All-weaker (IsBehind b two.0) (IsBehind a two.0) (λ t i. record { behind = omega (arith, i.behind, le); until = i.until }) y two.1, two.2)
turns_on a b c (x ∷ xs) ys one two = (one.0, one.1, turns_on one.0 b c xs ys one.2 two)

within_wider : (a b c d : ℕ) (xs : List (List ℕ)) → a ≤ b → c ≤ d → All (All (IsBetween b c)) xs → All (All (IsBetween a d)) xs
within_wider a b c d xs from to all = All-weaker (All (IsBetween b c)) (All (IsBetween a d)) (λ l h. all_wider a b c d l from to h) xs all

turns_then : (a b c : ℕ) (x y z : Moments) → a ≤ b → b ≤ c → SentInTurns a b x y → SentInTurns b c y z → SentInTurns a c x z
turns_then a b c x y z le less s t = record {
  more = s.more ++ t.more;
  within = All-append (All (IsBetween a c)) s.more t.more (within_wider a a b c s.more (omega arith) less s.within) (within_wider a b c c t.more le (omega arith) t.within);
  turns = turns_on a b c s.more t.more s.turns t.turns;
  after = t.after ∙ ap (λ (l : List (List ℕ)). l ++ t.more) s.after ∙ append_assoc (all_moments x) s.more t.more;
}

pub passing_then : {t : Bool} {a b c : ℕ} {x y z : LineView} → IsPassing t a b x y → IsPassing t b c y z → IsPassing t a c x z
passing_then {t} {a} {b} {c} {x} {y} {z} p q = record {
  faults = omega (arith, p.faults, q.faults);
  callers = omega (arith, p.callers, q.callers);
  time = omega (arith, p.time, q.time);
  moments = λ tells. turns_then a b c x.moments y.moments z.moments p.time q.time (p.moments tells) (q.moments tells);
}

-- no caller came
pub passing_still : (t : Bool) (a b : ℕ) (x y : LineView) → a ≤ b → x.faults ≤ y.faults → x.caller_faults ≤ y.caller_faults → (t ≡ true → y.moments ≡ x.moments) → IsPassing t a b x y
passing_still t a b x y time faults callers still = record {
  faults = faults;
  callers = callers;
  time = time;
  moments = λ tells. record {
    more = [];
    within = All-nil (All (IsBetween a b));
    turns = time;
    after = ap all_moments (still tells) ∙ sym (append-nil (all_moments x.moments));
  };
}

-- a caller came, and what was sent then was sent to it
pub passing_one : (t : Bool) (a b c : ℕ) (x w y : LineView) → a ≤ b → Rose a b → w.faults ≡ x.faults → x.caller_faults ≤ w.caller_faults → (t ≡ true → w.moments ≡ record { sent = []; earlier = x.moments.earlier ++ x.moments.sent ∷ [] }) → IsLater t b c w y → IsPassing t a c x y
passing_one t a b c x w y le rose faults callers moved later = record {
  faults = omega (arith, faults, later.faults);
  callers = omega (arith, callers, later.callers);
  time = omega (arith, le, later.time);
  moments = λ tells.
      let s = later.moments tells in
      record {
        more = s.more ∷ [];
        within = All-push (All (IsBetween a c)) [] s.more (All-nil (All (IsBetween a c))) (all_wider a b c c s.more le (omega arith) s.each);
        turns = (c, All-weaker (IsBetween b c) (IsBehind a c) (λ m i. record { behind = omega (arith, i.since, rose); until = i.until }) s.more s.each, omega arith);
        after = ap all_moments s.after ∙ ap (λ (m : Moments). m.earlier ++ (m.sent ++ s.more) ∷ []) (moved tells);
      };
}

pub passing_start : (t : Bool) (a : ℕ) (x : LineView) → IsPassing t a a x x
passing_start t a x = passing_still t a a x x (omega arith) (omega arith) (omega arith) (λ tells. refl)

-- the line is as it was
pub passing_quiet : (t : Bool) (a b : ℕ) (x y : LineView) → a ≤ b → y ≡ x → IsPassing t a b x y
passing_quiet t a b x y le same = passing_still t a b x y le (omega (arith, ap (λ (v : LineView). v.faults) same)) (omega (arith, ap (λ (v : LineView). v.caller_faults) same)) (λ tells. ap (λ (v : LineView). v.moments) same)
