-- The moments of what a run sends.
use Rattle.std.proofs.Common.{◌≡◌, ℕ, List, [], ◌∷◌, ◌++◌, length, take, refl, sym, ap, subst, ◌∙◌, ◌≤◌, append_assoc, arith, inl, inr}
use Rattle.std.specs.List.{All, flat_map}
use Rattle.std.proofs.lemmas.List.{append-nil, length-append}
use Rattle.std.proofs.lemmas.List.Elements.{All-nil, All-push, All-weaker}
use Rattle.std.proofs.lemmas.Grind.{flat_map-append}
use Rattle.dmn_outside.specs.Line.{LineView, Moments, Talk}
use Rattle.dmn_desk.specs.declared.answer.Answer.{Answer}
use Rattle.dmn_desk.specs.Texts.{Fits, frame_of}
use Rattle.dmn_frames.specs.Stamps.{IsBehind, StampsBehind}
use Rattle.dmn_frames.specs.Steps.{Emptied, Faulted, SentPart}
use Rattle.dmn_feed.specs.Stamps.{InTurns, IsPart, SentInTurns}

in_turns_more : (from mid to : ℕ) (answers : List Answer) (stamps here : List ℕ) (answer : Answer) → InTurns from answers stamps mid → length here ≡ length (frame_of answer) → All (IsBehind mid to) here → InTurns from (answers ++ answer ∷ []) (stamps ++ here) to
in_turns_more from mid to [] stamps here answer t long each = (
  to,
  here,
  [],
  ap (λ (l : List ℕ). l ++ here) t.0 ∙ sym (append-nil here),
  long,
  subst (λ (m : ℕ). All (IsBehind m to) here) t.1 each,
  (refl, refl),
)
in_turns_more from mid to (a ∷ answers) stamps here answer t long each = (
  t.0,
  t.1,
  t.2 ++ here,
  ap (λ (l : List ℕ). l ++ here) t.3 ∙ append_assoc t.1 t.2 here,
  t.4,
  t.5,
  in_turns_more t.0 mid to answers t.2 here answer t.6 long each,
)

-- the frames of these answers were sent, turn by turn
pub record FedInTurns (from now : ℕ) (old new : LineView) : Type 0 where
  pub answers : List Answer
  pub fit : All Fits answers
  pub sent : new.talk.sent ≡ old.talk.sent ++ flat_map frame_of answers
  pub stamps : List ℕ
  pub turns : InTurns from answers stamps now
  pub moments : new.moments ≡ record old.moments { sent = old.moments.sent ++ stamps }

pub no_turns : (from : ℕ) (x : LineView) → FedInTurns from from x x
no_turns from x = record {
  answers = [];
  fit = All-nil Fits;
  sent = sym (append-nil x.talk.sent);
  stamps = [];
  turns = (refl, refl);
  moments = ap (λ (l : List ℕ). record x.moments { sent = l }) (sym (append-nil x.moments.sent));
}

-- each byte that was sent has one moment
abbrev pub Even : LineView → Type 0
Even x = length x.moments.sent ≡ length x.talk.sent

pub turns_more : (from mid to : ℕ) (x y z : LineView) (answer : Answer) → FedInTurns from mid x y → Fits answer → z.talk ≡ record y.talk { left = z.talk.left; sent = y.talk.sent ++ frame_of answer } → StampsBehind mid to y.moments z.moments → Even y → Even z → FedInTurns from to x z
turns_more from mid to x y z answer f fits is b before after =
    let sent : z.talk.sent ≡ y.talk.sent ++ frame_of answer = ap (λ (t : Talk). t.sent) is in
    let more : z.moments.sent ≡ y.moments.sent ++ b.more = ap (λ (m : Moments). m.sent) b.after in
    let long : length b.more ≡ length (frame_of answer) = omega (arith, before, after, ap length sent, ap length more, length-append y.talk.sent (frame_of answer), length-append y.moments.sent b.more) in
    record {
      answers = f.answers ++ answer ∷ [];
      fit = All-push Fits f.answers answer f.fit fits;
      sent = sent ∙ ap (λ (l : List ℕ). l ++ frame_of answer) f.sent ∙ append_assoc x.talk.sent (flat_map frame_of f.answers) (frame_of answer)
          ∙ ap (λ (l : List ℕ). x.talk.sent ++ l) (sym (flat_map-append frame_of f.answers (answer ∷ []) ∙ ap (λ (l : List ℕ). flat_map frame_of f.answers ++ l) (append-nil (frame_of answer))));
      stamps = f.stamps ++ b.more;
      turns = in_turns_more from mid to f.answers f.stamps b.more answer f.turns long b.each;
      moments = b.after ∙ ap (λ (m : Moments). record m { sent = m.sent ++ b.more }) f.moments ∙ ap (λ (l : List ℕ). record x.moments { sent = l }) (append_assoc x.moments.sent f.stamps b.more);
    }

-- the last turn sent this part of an answer, or nothing
turns_end : (from mid to : ℕ) (x y z : LineView) (part : List ℕ) → IsPart part → FedInTurns from mid x y → z.talk.sent ≡ y.talk.sent ++ part → StampsBehind mid to y.moments z.moments → Even y → Even z → SentInTurns from to x z
turns_end from mid to x y z part few f sent b before after =
    let more : z.moments.sent ≡ y.moments.sent ++ b.more = ap (λ (m : Moments). m.sent) b.after in
    record {
      answers = f.answers;
      fit = f.fit;
      part = part;
      few = few;
      sent = sent ∙ ap (λ (l : List ℕ). l ++ part) f.sent ∙ append_assoc x.talk.sent (flat_map frame_of f.answers) part;
      last = mid;
      stamps = f.stamps;
      turns = f.turns;
      rest = b.more;
      long = omega (arith, before, after, ap length sent, ap length more, length-append y.talk.sent part, length-append y.moments.sent b.more);
      behind = b.each;
      moments = b.after ∙ ap (λ (m : Moments). record m { sent = m.sent ++ b.more }) f.moments ∙ ap (λ (l : List ℕ). record x.moments { sent = l }) (append_assoc x.moments.sent f.stamps b.more);
    }

-- the last turn found no more frames
pub turns_ended : (from mid to : ℕ) (x y z : LineView) → FedInTurns from mid x y → Emptied y.talk z.talk → StampsBehind mid to y.moments z.moments → Even y → Even z → SentInTurns from to x z
turns_ended from mid to x y z f is b before after = turns_end from mid to x y z [] (inl refl) f (ap (λ (t : Talk). t.sent) is ∙ sym (append-nil y.talk.sent)) b before after

-- the last turn sent nothing
pub turns_still : (from mid to : ℕ) (x y z : LineView) → FedInTurns from mid x y → z.talk.sent ≡ y.talk.sent → StampsBehind mid to y.moments z.moments → Even y → Even z → SentInTurns from to x z
turns_still from mid to x y z f is b before after = turns_end from mid to x y z [] (inl refl) f (is ∙ sym (append-nil y.talk.sent)) b before after

-- the line broke in the last turn, while a frame was read
pub turns_fault : (from mid to : ℕ) (x y z : LineView) → FedInTurns from mid x y → Faulted y.talk z.talk → StampsBehind mid to y.moments z.moments → Even y → Even z → SentInTurns from to x z
turns_fault from mid to x y z f is b before after = turns_end from mid to x y z [] (inl refl) f (ap (λ (t : Talk). t.sent) is.after ∙ sym (append-nil y.talk.sent)) b before after

-- or while an answer was sent
pub turns_part : (from mid to : ℕ) (x y z : LineView) (answer : Answer) → FedInTurns from mid x y → Fits answer → SentPart (frame_of answer) y.talk z.talk → StampsBehind mid to y.moments z.moments → Even y → Even z → SentInTurns from to x z
turns_part from mid to x y z answer f fits is b before after =
    let part = take is.count (frame_of answer) in
    turns_end from mid to x y z part (inr (answer, fits, is.count, is.few, refl)) f (ap (λ (t : Talk). t.sent) is.after) b before after

pub turns_all : (from to : ℕ) (x y : LineView) → FedInTurns from to x y → SentInTurns from to x y
turns_all from to x y f = record {
  answers = f.answers;
  fit = f.fit;
  part = [];
  few = inl refl;
  sent = f.sent ∙ ap (λ (l : List ℕ). x.talk.sent ++ l) (sym (append-nil (flat_map frame_of f.answers)));
  last = to;
  stamps = f.stamps;
  turns = f.turns;
  rest = [];
  long = refl;
  behind = All-nil (IsBehind to to);
  moments = f.moments ∙ ap (λ (l : List ℕ). record x.moments { sent = x.moments.sent ++ l }) (sym (append-nil f.stamps));
}

-- nothing was sent
pub turns_none : (from to : ℕ) (x : LineView) → SentInTurns from to x x
turns_none from to x = record {
  answers = [];
  fit = All-nil Fits;
  part = [];
  few = inl refl;
  sent = sym (append-nil x.talk.sent);
  last = from;
  stamps = [];
  turns = (refl, refl);
  rest = [];
  long = refl;
  behind = All-nil (IsBehind from to);
  moments = ap (λ (l : List ℕ). record x.moments { sent = l }) (sym (append-nil x.moments.sent));
}

behind_earlier : (t from to : ℕ) (xs : List ℕ) → t ≤ from → All (IsBehind from to) xs → All (IsBehind t to) xs
behind_earlier t from to xs le all = All-weaker (IsBehind from to) (IsBehind t to) (λ m b. record { behind = omega (arith, b.behind, le); until = b.until }) xs all

record Earlier (t : ℕ) (answers : List Answer) (stamps : List ℕ) (last : ℕ) : Type 0 where
  first : ℕ
  turns : InTurns t answers stamps first
  before : first ≤ last

turns_before : (t from : ℕ) (answers : List Answer) (stamps : List ℕ) (last : ℕ) → t ≤ from → InTurns from answers stamps last → Earlier t answers stamps last
turns_before t from [] stamps last le turns = record { first = t; turns = (turns.0, refl); before = omega (arith, le, turns.1) }
turns_before t from (answer ∷ answers) stamps last le turns = record { first = last; turns = (turns.0, turns.1, turns.2, turns.3, turns.4, behind_earlier t from turns.0 turns.1 le turns.5, turns.6); before = omega arith }

-- a run that began earlier
pub turns_earlier : (t from to : ℕ) (x y : LineView) → t ≤ from → SentInTurns from to x y → SentInTurns t to x y
turns_earlier t from to x y le s =
    let e = turns_before t from s.answers s.stamps s.last le s.turns in
    record {
      answers = s.answers;
      fit = s.fit;
      part = s.part;
      few = s.few;
      sent = s.sent;
      last = e.first;
      stamps = s.stamps;
      turns = e.turns;
      rest = s.rest;
      long = s.long;
      behind = behind_earlier e.first s.last to s.rest e.before s.behind;
      moments = s.moments;
    }
