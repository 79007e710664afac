-- A frame that is taken and answered.
use Rattle.std.proofs.Common.{◌≡◌, inl, inr, ℕ, ◌-◌, ◌≤◌, ◌<◌, Bool, true, false, List, [], ◌∷◌, ◌++◌, length, take, drop, replicate, zero, suc, refl, sym, ap, ◌∙◌, arith, append_assoc}
use Rattle.std.specs.Prelude.{Some, Ok, Err}
use Rattle.std.specs.List.{All}
use Rattle.std.proofs.lemmas.Bool.{le-ltb}
use Rattle.std.proofs.lemmas.List.{length-append, length-replicate}
use Rattle.std.proofs.lemmas.List.Elements.{All-append, All-nil, All-push, All-weaker}
use Rattle.dmn_outside.specs.Counts.{IsBetween as IsBetweenMoments}
use Rattle.dmn_outside.specs.Disk.{AreOver, DiskView}
use Rattle.dmn_outside.specs.Line.{LineView, Moments, Talk}
use Rattle.dmn_outside.specs.Pieces.{SentFront, StampsAfter, Took}
use Rattle.dmn_desk.specs.declared.answer.Answer.{Answer}
use Rattle.dmn_desk.specs.Texts.{Fits, frame_of}
use Rattle.dmn_frames.specs.Frames.{Frame, frame_at}
use Rattle.dmn_frames.specs.Steps.{Headed}
use Rattle.dmn_frames.proofs.Turns.{faulted_within, sent_part, sent_whole}
use Rattle.dmn_feed.specs.declared.asking.Stop.{Stop}
use Rattle.dmn_feed.specs.declared.asking.Stop.TheVariants as stops
use Rattle.dmn_feed.specs.declared.feeding.Turn.TheVariants as turns
use Rattle.dmn_office.specs.declared.office.Office.{Office}
use Rattle.dmn_office.specs.Lasting.{SentLater}
use Rattle.dmn_office.proofs.Moving.{breaks_earlier, goes_earlier, stands_still}
use Rattle.dmn_feed.specs.Outcome.{entry_of}
use Rattle.dmn_feed.specs.Steps.{Asks, MayBreak, MayServe, Turned, Turns}

-- ---- from the turn's start

module _ (t later : ℕ) (before mid after : DiskView) (office : Office) (le : t ≤ later) (over : AreOver t before.past) (same : mid ≡ before) where
  pub may_earlier : (frame : Frame) (answer : Answer) (new : Office) → MayServe later mid after office frame answer new → MayServe t before after office frame answer new
  may_earlier frame answer new may m stands =
      let s = may m (stands_still before mid m office same stands) in
      (s.0, s.1, goes_earlier t later before mid after m office le over same stands s.0 new s.2)

  pub break_earlier : (frame : Frame) → MayBreak later mid after office frame → MayBreak t before after office frame
  break_earlier frame may m stands = breaks_earlier t later before mid after m office le over same stands (Some (entry_of frame)) (may m (stands_still before mid m office same stands))

-- ---- bytes

front_is : (kind size : ℕ) (x h a : Talk) → Headed kind size x h → Took size h a → frame_at x.left ≡ Some (record { kind = kind; body = take size h.left }, a.left)
front_is kind size x h a head took =
    let after : a.left ≡ drop size h.left = ap (λ (t : Talk). t.left) took.after in
    head.frame ∙ rw (le-ltb (length h.left) size took.enough, after) refl

-- taking the frame changes nothing but what is left
taken : (kind size : ℕ) (x h a : Talk) → Headed kind size x h → Took size h a → a ≡ record x { left = a.left }
taken kind size x h a head took =
    let left : a.left ≡ drop size h.left = ap (λ (t : Talk). t.left) took.after in
    took.after ∙ ap (λ (t : Talk). record t { left = drop size h.left }) head.after ∙ ap (λ (l : List ℕ). record x { left = l }) (sym left)

-- ---- moments

all_same : (from n : ℕ) → All (λ t. from ≤ t) (replicate n from)
all_same from zero = All-nil (λ t. from ≤ t)
all_same from (suc n) = All-append (λ t. from ≤ t) (from ∷ []) (replicate n from) (All-push (λ t. from ≤ t) [] from (All-nil (λ t. from ≤ t)) (omega arith)) (all_same from n)

since_all : (from to : ℕ) (xs : List ℕ) → All (IsBetweenMoments from to) xs → All (λ t. from ≤ t) xs
since_all from to xs all = All-weaker (IsBetweenMoments from to) (λ t. from ≤ t) (λ t b. b.since) xs all

-- all bytes of an answer
later_all : (stamped : Bool) (from to : ℕ) (bytes : List ℕ) (disk : DiskView) (x a z : Moments) → AreOver from disk.past → (stamped ≡ true → a ≡ x) → (stamped ≡ true → StampsAfter from to (length bytes) a z) → (s : SentLater bytes disk) × (stamped ≡ true → z ≡ record x { sent = x.sent ++ s.moments })
later_all false from to bytes disk x a z over still stamps = (record { from = from; over = over; moments = replicate (length bytes) from; count = length-replicate (length bytes) from; each = all_same from (length bytes) }, λ (wrong : false ≡ true). absurd cc)
later_all true from to bytes disk x a z over still stamps =
    let s = stamps refl in
    (record { from = from; over = over; moments = s.more; count = s.count; each = since_all from to s.more s.each }, λ _. s.after ∙ ap (λ (m : Moments). record m { sent = m.sent ++ s.more }) (still refl))

pub record FrontStamped (stamped : Bool) (bytes : List ℕ) (disk : DiskView) (x z : Moments) : Type 0 where
  pub s : SentLater bytes disk
  pub later : List ℕ
  pub stamps : stamped ≡ true → z.sent ++ later ≡ x.sent ++ s.moments

-- a front of them
later_front : (stamped : Bool) (from to : ℕ) (bytes : List ℕ) (disk : DiskView) (x a z : Moments) → AreOver from disk.past → (stamped ≡ true → a ≡ x) → (stamped ≡ true → (n : ℕ) × (n < length bytes) × StampsAfter from to n a z) → FrontStamped stamped bytes disk x z
later_front false from to bytes disk x a z over still stamps = record {
  s = record { from = from; over = over; moments = replicate (length bytes) from; count = length-replicate (length bytes) from; each = all_same from (length bytes) };
  later = [];
  stamps = λ (wrong : false ≡ true). absurd cc;
}
later_front true from to bytes disk x a z over still stamps =
    let s = stamps refl in
    let rest : List ℕ = replicate (length bytes - s.0) from in
    let few : s.0 < length bytes = s.1 in
    record {
      s = record { from = from; over = over; moments = s.2.more ++ rest; count = omega (arith, length-append s.2.more rest, length-replicate (length bytes - s.0) from, s.2.count, few); each = All-append (λ t. from ≤ t) s.2.more rest (since_all from to s.2.more s.2.each) (all_same from (length bytes - s.0)) };
      later = rest;
      stamps = λ _. ap (λ (m : Moments). m.sent ++ rest) (s.2.after ∙ ap (λ (m : Moments). record m { sent = m.sent ++ s.2.more }) (still refl)) ∙ append_assoc x.sent s.2.more rest;
    }

-- ---- the turn

module _ (stamped : Bool) (t later : ℕ) (before mid after : DiskView) (office new : Office) (kind size : ℕ) (x h a : LineView) (le : t ≤ later) (over : AreOver t before.past) (same : mid ≡ before) (head : Headed kind size x.talk h.talk)
    (first : stamped ≡ true → h.moments ≡ x.moments) (second : stamped ≡ true → a.moments ≡ h.moments) where
  still : stamped ≡ true → a.moments ≡ x.moments
  still yes_ = second yes_ ∙ first yes_

  pub turn_stops : (stop : Stop) → Asks (Err stop) later mid after office kind size new h.talk a.talk → Turns (Err stop) stamped t before after office new x a
  turn_stops stops.LineFault asks = inl (faulted_within kind size x.talk h.talk a.talk head asks.0, asks.1 ∙ same, still)
  turn_stops stops.DiskFault asks = (record { kind = kind; body = take size h.talk.left }, a.talk.left, front_is kind size x.talk h.talk a.talk head asks.0, break_earlier t later before mid after office le over same (record { kind = kind; body = take size h.talk.left }) asks.1, taken kind size x.talk h.talk a.talk head asks.0, still)

  pub turned : (answer : Answer) (left : List ℕ) → Fits answer → Took size h.talk a.talk → MayServe later mid after office (record { kind = kind; body = take size h.talk.left }) answer new → left ≡ a.talk.left → Turned t before after office answer new x.talk.left left
  turned answer left fits took may is = record {
    frame = record { kind = kind; body = take size h.talk.left };
    front = front_is kind size x.talk h.talk a.talk head took ∙ ap (λ (l : List ℕ). Some (record { kind = kind; body = take size h.talk.left }, l)) (sym is);
    may = may_earlier t later before mid after office le over same (record { kind = kind; body = take size h.talk.left }) answer new may;
    fits = fits;
  }

  pub turn_sent : (answer : Answer) (from to : ℕ) (z : LineView) → AreOver from after.past → Fits answer → Took size h.talk a.talk → MayServe later mid after office (record { kind = kind; body = take size h.talk.left }) answer new
      → z.talk ≡ record a.talk { sent = a.talk.sent ++ frame_of answer } → (stamped ≡ true → StampsAfter from to (length (frame_of answer)) a.moments z.moments) → Turns (Ok turns.Answered) stamped t before after office new x z
  turn_sent answer from to z over_then fits took may sent stamps =
      let s = later_all stamped from to (frame_of answer) after x.moments a.moments z.moments over_then still stamps in
      (answer, s.0, turned answer z.talk.left fits took may (ap (λ (k : Talk). k.left) sent), record { talk = sent_whole x.talk a.talk z.talk (frame_of answer) (taken kind size x.talk h.talk a.talk head took) sent; stamps = s.1 })

  pub turn_part : (answer : Answer) (from to : ℕ) (z : LineView) → AreOver from after.past → Fits answer → Took size h.talk a.talk → MayServe later mid after office (record { kind = kind; body = take size h.talk.left }) answer new
      → SentFront (frame_of answer) a.talk z.talk → (stamped ≡ true → (n : ℕ) × (n < length (frame_of answer)) × StampsAfter from to n a.moments z.moments) → Turns (Err stops.LineFault) stamped t before after office new x z
  turn_part answer from to z over_then fits took may part stamps =
      let s = later_front stamped from to (frame_of answer) after x.moments a.moments z.moments over_then still stamps in
      inr (
        answer,
        s.s,
        turned answer z.talk.left fits took may (ap (λ (k : Talk). k.left) part.after),
        record { part = sent_part x.talk a.talk z.talk (frame_of answer) (taken kind size x.talk h.talk a.talk head took) part; later = s.later; stamps = s.stamps },
      )
