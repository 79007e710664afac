-- Two texts that are sent one after the other.
use Rattle.std.proofs.Common.{◌≡◌, ℕ, ◌+◌, ◌<◌, ◌≤◌, List, ◌++◌, length, take, sym, ap, ◌∙◌, subst, append_assoc, arith, Ok, Err, Result}
use Rattle.std.proofs.lemmas.List.{length-append, take-append-le}
use Rattle.std.proofs.lemmas.List.Elements.{All-append}
use Rattle.std.proofs.Math.Seq.{take-append-add}
use Rattle.dmn_outside.specs.Counts.{IsBetween}
use Rattle.dmn_outside.specs.declared.line.Failed.{Failed}
use Rattle.dmn_outside.specs.Failing.{LacksRoom, SendsAllSurely, SpendsRoom}
use Rattle.dmn_outside.specs.Line.{LineView, Moments, Talk}
use Rattle.dmn_outside.specs.Pieces.{SendsAll, SentFront, StampsAfter, StampsAll}
use Rattle.dmn_http.specs.Replies.{SendsReply, SendsReplySurely, StampsReply}
use Rattle.dmn_outside.proofs.Passing.{all_wider}

-- ---- bytes

pub front_first : (a b : List ℕ) (x y : Talk) → SentFront a x y → SentFront (a ++ b) x y
front_first a b x y f = record {
  count = f.count;
  few = omega (arith, f.few, length-append a b);
  after = f.after ∙ ap (λ (l : List ℕ). record x { sent = x.sent ++ l; own = y.own }) (sym (take-append-le f.count a b (omega (arith, f.few))));
  own = f.own;
}

pub then_all : (a b : List ℕ) (x y z : Talk) → y ≡ record x { sent = x.sent ++ a } → z ≡ record y { sent = y.sent ++ b } → z ≡ record x { sent = x.sent ++ (a ++ b) }
then_all a b x y z e f = f ∙ ap (λ (t : Talk). record t { sent = t.sent ++ b }) e ∙ ap (λ (l : List ℕ). record x { sent = l }) (append_assoc x.sent a b)

pub front_second : (a b : List ℕ) (x y z : Talk) → y ≡ record x { sent = x.sent ++ a } → SentFront b y z → SentFront (a ++ b) x z
front_second a b x y z e f = record {
  count = length a + f.count;
  few = omega (arith, f.few, length-append a b);
  after = f.after ∙ ap (λ (t : Talk). record t { sent = t.sent ++ take f.count b; own = z.own }) e
      ∙ ap (λ (l : List ℕ). record x { sent = l; own = z.own }) (append_assoc x.sent a (take f.count b) ∙ ap (λ (l : List ℕ). x.sent ++ l) (sym (take-append-add a b f.count)));
  own = f.own;
}

pub then_sends : (r : Result (Unit {0}) Failed) (a b : List ℕ) (x y z : Talk) → y ≡ record x { sent = x.sent ++ a } → SendsAll r b y z → SendsReply r (a ++ b) x z
then_sends (Ok done) a b x y z e f = then_all a b x y z e f
then_sends (Err failed) a b x y z e f = front_second a b x y z e f

-- ---- moments

pub stamps_both : (from mid to a b : ℕ) (x y z : Moments) → from ≤ mid → mid ≤ to → StampsAfter from mid a x y → StampsAfter mid to b y z → StampsAfter from to (a + b) x z
stamps_both from mid to a b x y z le less s t = record {
  more = s.more ++ t.more;
  count = omega (arith, length-append s.more t.more, s.count, t.count);
  each = All-append (IsBetween from to) s.more t.more (all_wider from from mid to s.more (omega arith) less s.each) (all_wider from mid to to t.more le (omega arith) t.each);
  after = t.after ∙ ap (λ (m : Moments). record m { sent = m.sent ++ t.more }) s.after ∙ ap (λ (l : List ℕ). record x { sent = l }) (append_assoc x.sent s.more t.more);
}

pub then_stamps : (r : Result (Unit {0}) Failed) (from mid to : ℕ) (a b : List ℕ) (x y z : Moments) → from ≤ mid → mid ≤ to → StampsAfter from mid (length a) x y → StampsAll r mid to (length b) y z → StampsReply r from to (length (a ++ b)) x z
then_stamps (Ok done) from mid to a b x y z le less s t = subst (λ (n : ℕ). StampsAfter from to n x z) (sym (length-append a b)) (stamps_both from mid to (length a) (length b) x y z le less s t)
then_stamps (Err failed) from mid to a b x y z le less s t = (length a + t.0, omega (arith, t.1, length-append a b), stamps_both from mid to (length a) t.0 x y z le less s t.2)

pub stamps_first : (from to : ℕ) (a b : List ℕ) (x y : Moments) → ((n : ℕ) × (n < length a) × StampsAfter from to n x y) → (n : ℕ) × (n < length (a ++ b)) × StampsAfter from to n x y
stamps_first from to a b x y s = (s.0, omega (arith, s.1, length-append a b), s.2)

-- ---- room

pub then_surely : (r : Result (Unit {0}) Failed) (a b : List ℕ) (p q s : ℕ) (x y z : LineView) → SpendsRoom (length a) p q x y → SendsAllSurely (length b) r q s y z → SendsReplySurely r (length (a ++ b)) p s x z
then_surely (Ok done) a b p q s x y z one two = record { room = omega (arith, one.room, two.room, length-append a b); faults = two.faults ∙ one.faults }
then_surely (Err failed) a b p q s x y z one two = omega (arith, one.room, two.lacks, length-append a b)

pub surely_first : (a b : List ℕ) (p q : ℕ) (x y : LineView) → LacksRoom (length a) p q x y → p < length (a ++ b)
surely_first a b p q x y one = omega (arith, one.lacks, length-append a b)
