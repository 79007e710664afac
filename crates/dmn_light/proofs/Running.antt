-- Frames that are answered one after another.
use Rattle.std.proofs.Common.{◌≡◌, ◌<◌, ℕ, ◌+◌, List, [], ◌∷◌, ◌++◌, length, take, drop, refl, sym, ap, subst, ◌∙◌, append_assoc, arith, inl, inr}
use Rattle.std.specs.Prelude.{Some}
use Rattle.std.specs.List.{flat_map}
use Rattle.std.proofs.lemmas.List.{append-nil, length-append}
use Rattle.std.proofs.lemmas.List.Elements.{All-nil, All-push}
use Rattle.std.proofs.lemmas.Grind.{flat_map-append}
use Rattle.dmn_client.specs.Step.{ClientState, new_client}
use Rattle.dmn_frames.specs.Frames.{Frame, frame_at, Begins}
use Rattle.dmn_frames.specs.Steps.{Faulted, SentPart}
use Rattle.dmn_outside.specs.Line.{Talk}
use Rattle.dmn_light.specs.declared.answer.Answer.{Answer}
use Rattle.dmn_light.specs.Answers.{Fits, frame_of}
use Rattle.dmn_light.specs.Outcome.{Answered, BrokeOff, Sent, most}
use Rattle.dmn_light.specs.Serving.{MayAnswer, Serves}
use Rattle.dmn_light.specs.Steps.{Turned}

Begins-more : (text : List ℕ) (frames : List Frame) (left : List ℕ) (frame : Frame) (after : List ℕ) → Begins text frames left → frame_at left ≡ Some (frame, after) → Begins text (frames ++ frame ∷ []) after
Begins-more text [] left frame after b e = (after, ap frame_at (sym b) ∙ e, refl)
Begins-more text (f ∷ frames) left frame after b e = (b.0, b.1, Begins-more b.0 frames left frame after b.2 e)

Serves-more : (c : ClientState) (frames : List Frame) (answers : List Answer) (n : ClientState) (frame : Frame) (answer : Answer) (o : ClientState) → Serves c frames answers n → MayAnswer n frame answer o → Serves c (frames ++ frame ∷ []) (answers ++ answer ∷ []) o
Serves-more c [] [] n frame answer o r may = (o, subst (λ (s : ClientState). MayAnswer s frame answer o) r may, refl)
Serves-more c (f ∷ frames) (a ∷ answers) n frame answer o r may = (r.0, r.1, Serves-more r.0 frames answers n frame answer o r.2 may)
Serves-more c [] (a ∷ answers) n frame answer o r may = absurd r
Serves-more c (f ∷ frames) [] n frame answer o r may = absurd r

-- so many frames were answered, all of their answers were sent, and nothing else changed; this is what the client holds
pub record ServedSoFar (count : ℕ) (old now : Talk) (holds : ClientState) : Type 0 where
  pub frames : List Frame
  pub bytes : List ℕ
  pub answered : Answered old.left frames now.left bytes holds
  pub sent : Sent now.left bytes old now
  pub counted : length frames ≡ count

pub served_none : (old : Talk) (c : ClientState) → c ≡ new_client → ServedSoFar 0 old old c
served_none old c is = record {
  frames = [];
  bytes = [];
  answered = record { front = refl; answers = []; serves = is; fit = All-nil Fits; bytes_are = refl };
  sent = ap (λ (l : List ℕ). record old { sent = l }) (sym (append-nil old.sent));
  counted = refl;
}

pub answered_more : (text : List ℕ) (frames : List Frame) (left bytes : List ℕ) (c : ClientState) (frame : Frame) (answer : Answer) (n : ClientState) (after : List ℕ)
    → Answered text frames left bytes c → frame_at left ≡ Some (frame, after) → MayAnswer c frame answer n → Fits answer → Answered text (frames ++ frame ∷ []) after (bytes ++ frame_of answer) n
answered_more text frames left bytes c frame answer n after a front may fits = record {
  front = Begins-more text frames left frame after a.front front;
  answers = a.answers ++ answer ∷ [];
  serves = Serves-more new_client frames a.answers c frame answer n a.serves may;
  fit = All-push Fits a.answers answer a.fit fits;
  bytes_are = rw a.bytes_are (sym (flat_map-append frame_of a.answers (answer ∷ []) ∙ ap (λ (l : List ℕ). flat_map frame_of a.answers ++ l) (append-nil (frame_of answer))));
}

pub served_more : (count : ℕ) (x y z : Talk) (c n : ClientState) (answer : Answer) → ServedSoFar count x y c → Turned c answer n y.left z.left → z ≡ record y { left = z.left; sent = y.sent ++ frame_of answer } → ServedSoFar (count + 1) x z n
served_more count x y z c n answer f t s = record {
  frames = f.frames ++ t.frame ∷ [];
  bytes = f.bytes ++ frame_of answer;
  answered = answered_more x.left f.frames y.left f.bytes c t.frame answer n z.left f.answered t.front t.may t.fits;
  sent = s ∙ ap (λ (t : Talk). record t { left = z.left; sent = t.sent ++ frame_of answer }) f.sent ∙ ap (λ (l : List ℕ). record x { left = z.left; sent = l }) (append_assoc x.sent f.bytes (frame_of answer));
  counted = omega (arith, length-append f.frames (t.frame ∷ []), f.counted);
}

-- the input is read to its end
pub served_to_end : (count : ℕ) (x y z : Talk) (c : ClientState) (f : ServedSoFar count x y c) → z ≡ record y { left = [] } → Sent [] f.bytes x z
served_to_end count x y z c f e = e ∙ ap (λ (t : Talk). record t { left = [] }) f.sent

-- the line broke before the next frame was taken whole
pub served_fault : (count : ℕ) (x y z : Talk) (c : ClientState) → count < most → ServedSoFar count x y c → Faulted y z → BrokeOff x z
served_fault count x y z c few f e = record {
  frames = f.frames;
  left = y.left;
  bytes = f.bytes;
  holds = c;
  answered = f.answered;
  few = omega (arith, f.counted);
  part = [];
  last = inl (record { taken = e.taken; rest_is = ap (λ (t : Talk). t.left) e.after; none = refl });
  own = e.own;
  after = e.after ∙ ap (λ (t : Talk). record t { left = drop e.taken y.left; own = z.own }) f.sent
      ∙ ap (λ (l : List ℕ). record x { left = l; sent = x.sent ++ f.bytes; own = z.own }) (sym (ap (λ (t : Talk). t.left) e.after))
      ∙ ap (λ (l : List ℕ). record x { left = z.left; sent = x.sent ++ l; own = z.own }) (sym (append-nil f.bytes));
}

-- the line broke within the next answer
pub served_part : (count : ℕ) (x y z : Talk) (c n : ClientState) (answer : Answer) → count < most → ServedSoFar count x y c → Turned c answer n y.left z.left → SentPart (frame_of answer) y z → BrokeOff x z
served_part count x y z c n answer few f t s = record {
  frames = f.frames;
  left = y.left;
  bytes = f.bytes;
  holds = c;
  answered = f.answered;
  few = omega (arith, f.counted);
  part = take s.count (frame_of answer);
  last = inr (record { frame = t.frame; answer = answer; holds = n; front = t.front; may = t.may; count = s.count; few = s.few; part_is = refl });
  own = s.own;
  after = s.after ∙ ap (λ (t : Talk). record t { left = z.left; sent = t.sent ++ take s.count (frame_of answer); own = z.own }) f.sent
      ∙ ap (λ (l : List ℕ). record x { left = z.left; sent = l; own = z.own }) (append_assoc x.sent f.bytes (take s.count (frame_of answer)));
}
