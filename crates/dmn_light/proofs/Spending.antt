-- The room that a run takes, over a line that tells how much is left.
use Rattle.std.proofs.Common.{◌≡◌, ℕ, ◌<◌, List, ◌++◌, length, refl, ap, arith}
use Rattle.std.proofs.lemmas.List.{length-append}
use Rattle.dmn_client.specs.Step.{ClientState}
use Rattle.dmn_frames.specs.Room.{SpendsSent}
use Rattle.dmn_frames.specs.Steps.{Headed}
use Rattle.dmn_outside.specs.Failing.{KeepsRoom, LacksRoom}
use Rattle.dmn_outside.specs.Line.{LineView, Talk}
use Rattle.dmn_light.specs.declared.answer.Answer.{Answer}
use Rattle.dmn_light.specs.Answers.{Fits, frame_of}
use Rattle.dmn_light.specs.Room.{Suffices}
use Rattle.dmn_light.specs.Steps.{Asked, Turned}
use Rattle.dmn_light.proofs.Running.{ServedSoFar, answered_more}
use Rattle.dmn_light.proofs.Turning.{turned}

-- the next answer does not fit
pub lacked : (c n : ClientState) (answer : Answer) (kind size : ℕ) (h : Talk) {p q r : ℕ} {x a z : LineView} → KeepsRoom p q x a → Headed kind size x.talk h → Asked c kind size answer n h a.talk → Fits answer → LacksRoom (length (frame_of answer)) q r a z
    → (given : Answer) × (k : ClientState) × (left : List ℕ) × Turned c given k x.talk.left left × (p < length (frame_of given))
lacked c n answer kind size h {p} {q} {r} {x} {a} {z} k head asked fits l = (
  answer,
  n,
  a.talk.left,
  turned c n answer kind size x.talk h a.talk a.talk.left head asked fits refl,
  omega (arith, l.lacks, k.room),
)

-- where the room is enough, each answer fits what is left of it
pub never_lacks : (count p q : ℕ) (x y : LineView) (c n : ClientState) (answer : Answer) (left : List ℕ) → ServedSoFar count x.talk y.talk c → SpendsSent p q x y → Suffices p x.talk.left → Turned c answer n y.talk.left left → q < length (frame_of answer) → ⊥
never_lacks count p q x y c n answer left f s enough t lacks =
    let fits = enough _ _ _ _ (answered_more x.talk.left f.frames y.talk.left f.bytes c t.frame answer n left f.answered t.front t.may t.fits) in
    let sent : y.talk.sent ≡ x.talk.sent ++ f.bytes = ap (λ (t : Talk). t.sent) f.sent in
    omega (arith, fits, lacks, s.room, ap length sent, length-append x.talk.sent f.bytes, length-append f.bytes (frame_of answer))
