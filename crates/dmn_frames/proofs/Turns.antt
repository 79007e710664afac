-- A frame that is taken, and bytes that are sent behind it.
use Rattle.std.proofs.Common.{◌≡◌, ℕ, List, [], ◌++◌, length, take, refl, sym, ap, subst, ◌∙◌}
use Rattle.std.proofs.lemmas.Bool.{lt-ltb}
use Rattle.std.specs.Prelude.{None}
use Rattle.dmn_outside.specs.Line.{Talk}
use Rattle.dmn_outside.specs.Pieces.{Ended, SentFront}
use Rattle.dmn_frames.specs.Frames.{frame_at}
use Rattle.dmn_frames.specs.Steps.{Emptied, Faulted, Headed, SentPart}
use Rattle.dmn_frames.proofs.Heading.{faulted_behind}

-- its whole answer is sent
pub sent_whole : (x a z : Talk) (bytes : List ℕ) → a ≡ record x { left = a.left } → z ≡ record a { sent = a.sent ++ bytes } → z ≡ record x { left = z.left; sent = x.sent ++ bytes }
sent_whole x a z bytes took sent =
    let left : z.left ≡ a.left = ap (λ (t : Talk). t.left) sent in
    sent ∙ ap (λ (t : Talk). record t { sent = t.sent ++ bytes }) took ∙ ap (λ (l : List ℕ). record x { left = l; sent = x.sent ++ bytes }) (sym left)

-- a part of its answer is sent
pub sent_part : (x a z : Talk) (bytes : List ℕ) → a ≡ record x { left = a.left } → SentFront bytes a z → SentPart bytes x z
sent_part x a z bytes took s =
    let left : z.left ≡ a.left = ap (λ (t : Talk). t.left) s.after in
    record {
      count = s.count;
      few = s.few;
      own = s.own;
      after = s.after ∙ ap (λ (t : Talk). record t { sent = t.sent ++ take s.count bytes; own = z.own }) took ∙ ap (λ (l : List ℕ). record x { left = l; sent = x.sent ++ take s.count bytes; own = z.own }) (sym left);
    }

-- the line broke within the frame's body
pub faulted_within : (kind size : ℕ) (x h z : Talk) → Headed kind size x h → Faulted h z → Faulted x z
faulted_within kind size x h z head f = faulted_behind 5 x h z (subst (λ (l : List ℕ). h ≡ record x { left = l }) head.taken head.after) f

-- the input ended within the frame's body
pub cut_within : (kind size : ℕ) (x h z : Talk) → Headed kind size x h → Ended size h z → (x.left ≡ [] → ⊥) × (frame_at x.left ≡ None) × Emptied x z
cut_within kind size x h z head e = (head.some, head.frame ∙ rw (lt-ltb (length h.left) size e.few) refl, e.after ∙ ap (λ (t : Talk). record t { left = [] }) head.after)
