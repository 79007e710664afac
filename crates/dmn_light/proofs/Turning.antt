-- A frame that is taken and answered.
use Rattle.std.proofs.Common.{◌≡◌, ℕ, List, ◌++◌, length, take, drop, refl, sym, ap, subst, ◌∙◌}
use Rattle.std.proofs.lemmas.Bool.{le-ltb}
use Rattle.dmn_client.specs.Step.{ClientState}
use Rattle.dmn_frames.specs.declared.reading.Reading.{Reading}
use Rattle.dmn_frames.specs.Reading.{kept_of}
use Rattle.dmn_frames.specs.Steps.{Headed, SentPart}
use Rattle.dmn_frames.proofs.Turns.{sent_part, sent_whole}
use Rattle.dmn_outside.specs.Line.{Talk}
use Rattle.dmn_outside.specs.Pieces.{SentFront}
use Rattle.dmn_light.specs.declared.answer.Answer.{Answer}
use Rattle.dmn_light.specs.Answers.{Fits, frame_of}
use Rattle.dmn_light.specs.Ask.{answer_of, answered}
use Rattle.dmn_light.specs.Serving.{MayAnswer, OrLack}
use Rattle.dmn_light.specs.Steps.{Asked, Decides, Turned}

-- what is answered by what was kept of a body is answered to the frame
pub kept_serves : (old new : ClientState) (reading : Reading) (kind size : ℕ) (body kept : List ℕ) (answer : Answer) → Decides reading kind size → length body ≡ size → kept ≡ kept_of reading body → OrLack (answered old kind size kept) old answer new
    → MayAnswer old (record { kind = kind; body = body }) answer new
kept_serves old new reading kind size body kept answer decides long same may =
    let so : answer_of old kind body ≡ answered old kind size kept = decides old body long ∙ ap (answered old kind size) (sym same) in
    subst (λ (r : Answer × ClientState). OrLack r old answer new) (sym so) may

-- the frame, and what is left behind it
pub turned : (c n : ClientState) (answer : Answer) (kind size : ℕ) (x h a : Talk) (left : List ℕ) → Headed kind size x h → Asked c kind size answer n h a → Fits answer → left ≡ a.left → Turned c answer n x.left left
turned c n answer kind size x h a left head asked fits same =
    let after : a.left ≡ drop size h.left = ap (λ (t : Talk). t.left) asked.took.after in
    record {
      frame = record { kind = kind; body = take size h.left };
      front = head.frame ∙ rw (le-ltb (length h.left) size asked.took.enough, same, after) refl;
      may = asked.may;
      fits = fits;
    }

-- taking the frame changes nothing but what is left
pub taken : (c n : ClientState) (answer : Answer) (kind size : ℕ) (x h a : Talk) → Headed kind size x h → Asked c kind size answer n h a → a ≡ record x { left = a.left }
taken c n answer kind size x h a head asked =
    let left : a.left ≡ drop size h.left = ap (λ (t : Talk). t.left) asked.took.after in
    asked.took.after ∙ ap (λ (t : Talk). record t { left = drop size h.left }) head.after ∙ ap (λ (l : List ℕ). record x { left = l }) (sym left)

-- the whole answer was sent
pub turned_whole : (c n : ClientState) (answer : Answer) (kind size : ℕ) (x h a z : Talk) → Headed kind size x h → Asked c kind size answer n h a → Fits answer → z ≡ record a { sent = a.sent ++ frame_of answer }
    → (given : Answer) × Turned c given n x.left z.left × (z ≡ record x { left = z.left; sent = x.sent ++ frame_of given })
turned_whole c n answer kind size x h a z head asked fits sent = (
  answer,
  turned c n answer kind size x h a z.left head asked fits (ap (λ (t : Talk). t.left) sent),
  sent_whole x a z (frame_of answer) (taken c n answer kind size x h a head asked) sent,
)

-- the line broke while the answer was sent
pub turned_part : (c n : ClientState) (answer : Answer) (kind size : ℕ) (x h a z : Talk) → Headed kind size x h → Asked c kind size answer n h a → Fits answer → SentFront (frame_of answer) a z
    → (given : Answer) × Turned c given n x.left z.left × SentPart (frame_of given) x z
turned_part c n answer kind size x h a z head asked fits part = (
  answer,
  turned c n answer kind size x h a z.left head asked fits (ap (λ (t : Talk). t.left) part.after),
  sent_part x a z (frame_of answer) (taken c n answer kind size x h a head asked) part,
)
