-- Calls of a line, one after another.
use Rattle.std.proofs.Common.{◌≡◌, ℕ, ◌≤◌, All, Bool, true, List, [], ◌++◌, sym, ap, ◌∙◌, append_assoc, arith, refl}
use Rattle.std.proofs.lemmas.List.{append-nil}
use Rattle.std.proofs.lemmas.List.Elements.{All-append, All-nil, All-weaker}
use Rattle.dmn_outside.specs.Counts.{IsBetween}
use Rattle.dmn_outside.specs.Failing.{KeepsRoom}
use Rattle.dmn_outside.specs.Line.{LineView, Moments}
use Rattle.dmn_outside.specs.Later.{IsLater, IsQuiet, StampsSince}
use Rattle.dmn_outside.specs.Pieces.{StampsAfter}

between_wider : (a b c d m : ℕ) → a ≤ b → c ≤ d → IsBetween b c m → IsBetween a d m
between_wider a b c d m from to h = record { since = omega (arith, h.since, from); until = omega (arith, h.until, to) }

-- moments of a part of a time are moments of the whole
pub all_wider : (a b c d : ℕ) (xs : List ℕ) → a ≤ b → c ≤ d → All (IsBetween b c) xs → All (IsBetween a d) xs
all_wider a b c d xs from to h = All-weaker (IsBetween b c) (IsBetween a d) (λ m k. between_wider a b c d m from to k) xs h

stamps_none : (from to : ℕ) (x y : Moments) → y ≡ x → StampsSince from to x y
stamps_none from to x y e = record { more = []; each = All-nil (IsBetween from to); after = e ∙ ap (λ (l : List ℕ). record x { sent = l }) (sym (append-nil x.sent)) }

stamps_then : (a b c : ℕ) (x y z : Moments) → a ≤ b → b ≤ c → StampsSince a b x y → StampsSince b c y z → StampsSince a c x z
stamps_then a b c x y z le less s t = record {
  more = s.more ++ t.more;
  each = All-append (IsBetween a c) s.more t.more (all_wider a a b c s.more (omega arith) less s.each) (all_wider a b c c t.more le (omega arith) t.each);
  after = t.after ∙ ap (λ (m : Moments). record m { sent = m.sent ++ t.more }) s.after ∙ ap (λ (l : List ℕ). record x { sent = l }) (append_assoc x.sent s.more t.more);
}

pub later_then : {t : Bool} {a b c : ℕ} {x y z : LineView} → IsLater t a b x y → IsLater t b c y z → IsLater t a c x z
later_then {t} {a} {b} {c} {x} {y} {z} p q = record {
  faults = omega (arith, p.faults, q.faults);
  callers = q.callers ∙ p.callers;
  time = omega (arith, p.time, q.time);
  moments = λ tells. stamps_then a b c x.moments y.moments z.moments p.time q.time (p.moments tells) (q.moments tells);
}

-- calls that send nothing
pub later_quiet : {t : Bool} {a b : ℕ} {x y : LineView} → IsQuiet t a b x y → IsLater t a b x y
later_quiet {t} {a} {b} {x} {y} q = record { faults = q.faults; callers = q.callers; time = q.time; moments = λ tells. stamps_none a b x.moments y.moments (q.moments tells) }

pub quiet_then : {t : Bool} {a b c : ℕ} {x y z : LineView} → IsQuiet t a b x y → IsQuiet t b c y z → IsQuiet t a c x z
quiet_then p q = record {
  faults = omega (arith, p.faults, q.faults);
  callers = q.callers ∙ p.callers;
  time = omega (arith, p.time, q.time);
  moments = λ tells. q.moments tells ∙ p.moments tells;
}

pub later_same : (t : Bool) (a : ℕ) (x : LineView) → IsLater t a a x x
later_same t a x = later_quiet (record { faults = omega arith; callers = refl; time = omega arith; moments = λ tells. refl })

-- calls that send
pub later_sent : (t : Bool) (a b n : ℕ) (x y : LineView) → x.faults ≤ y.faults → y.caller_faults ≡ x.caller_faults → a ≤ b → (t ≡ true → StampsAfter a b n x.moments y.moments) → IsLater t a b x y
later_sent t a b n x y faults callers time stamps = record {
  faults = faults;
  callers = callers;
  time = time;
  moments = λ tells. let s = stamps tells in record { more = s.more; each = s.each; after = s.after };
}

-- calls that send nothing leave the room
pub room_kept : {a b c : ℕ} {x y z : LineView} → KeepsRoom a b x y → KeepsRoom b c y z → KeepsRoom a c x z
room_kept p q = record { room = q.room ∙ p.room; faults = q.faults ∙ p.faults; callers = q.callers ∙ p.callers }
