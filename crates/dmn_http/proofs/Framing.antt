-- The body of an answer, behind the head of its frame.
use Rattle.std.proofs.Common.{◌≡◌, ℕ, ◌≤◌, List, [], ◌++◌, length, drop, refl, ap, ◌∙◌, arith}
use Rattle.dmn_desk.specs.declared.answer.Answer.{Answer}
use Rattle.dmn_frames.specs.Frames.{framed}
use Rattle.dmn_desk.specs.Texts.{body_of, frame_of, status_of}

behind_head : (status : ℕ) (body : List ℕ) → drop 5 (framed status body) ≡ body
unfolding framed
behind_head status body = refl

head_there : (status : ℕ) (body : List ℕ) → 5 ≤ length (framed status body)
unfolding framed
head_there status body = omega arith

whole : (answer : Answer) (old new text : List ℕ) → old ≡ [] → new ≡ old ++ frame_of answer → text ≡ new → text ≡ frame_of answer
whole answer old new text none made is = is ∙ made ∙ ap (λ (l : List ℕ). l ++ frame_of answer) none

pub frame_long : (answer : Answer) (old new text : List ℕ) → old ≡ [] → new ≡ old ++ frame_of answer → text ≡ new → 5 ≤ length text
frame_long answer old new text none made is = omega (arith, ap length (whole answer old new text none made is), head_there (status_of answer) (body_of answer))

pub frame_body : (answer : Answer) (old new text : List ℕ) → old ≡ [] → new ≡ old ++ frame_of answer → text ≡ new → drop 5 text ≡ body_of answer
frame_body answer old new text none made is = ap (λ (l : List ℕ). drop 5 l) (whole answer old new text none made is) ∙ behind_head (status_of answer) (body_of answer)
