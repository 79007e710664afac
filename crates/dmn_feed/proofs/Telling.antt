-- The bytes of answers tell which of them are Memory.
use Rattle.std.proofs.Common.{◌≡◌, ℕ, List, [], ◌∷◌, ◌++◌, length, map, refl, sym, ap, ◌∙◌, append_assoc}
use Rattle.std.specs.Prelude.{Some}
use Rattle.std.specs.Int.{w32, to_le_bytes}
use Rattle.std.specs.List.{All, flat_map}
use Rattle.std.proofs.lemmas.List.Concat.{flat_map-cons}
use Rattle.std.proofs.lemmas.List.Elements.{All-head, All-tail}
use Rattle.dmn_desk.specs.declared.answer.Answer.{Answer}
use Rattle.dmn_desk.specs.declared.answer.Answer.TheVariants.{Short, Grown}
use Rattle.dmn_desk.specs.declared.answer.ShortAnswer.TheVariants as short
use Rattle.dmn_desk.specs.Texts.{Fits, body_of, frame_of, status_of}
use Rattle.dmn_frames.specs.Frames.{frame_at, framed, Begins}
use Rattle.dmn_feed.specs.Laws.{AnswersTellOfMemory, as_frame}
use Rattle.dmn_frames.proofs.Cutting.{nothing_at_end, same_cut}
use Rattle.dmn_frames.proofs.Framing.{frame_by}

one_frame : (answer : Answer) (rest : List ℕ) → Fits answer → frame_at (frame_of answer ++ rest) ≡ Some (as_frame answer, rest)
unfolding framed
one_frame answer rest fits = ap (λ (l : List ℕ). frame_at (status_of answer ∷ l)) (append_assoc (to_le_bytes w32 (length (body_of answer))) (body_of answer) rest) ∙ frame_by (status_of answer) (length (body_of answer)) (body_of answer) rest fits refl

all_frames : (answers : List Answer) → All Fits answers → Begins (flat_map frame_of answers) (map as_frame answers) []
all_frames [] fit = refl
all_frames (answer ∷ answers) fit = (
  flat_map frame_of answers,
  ap frame_at (flat_map-cons frame_of answer answers) ∙ one_frame answer (flat_map frame_of answers) (All-head Fits answer answers fit),
  all_frames answers (All-tail Fits answer answers fit),
)

only_memory : (answer : Answer) → status_of answer ≡ 1 → answer ≡ Short short.Memory
only_memory (Short (short.Connected height hash)) is = absurd (cc)
only_memory (Short (short.Disconnected height hash)) is = absurd (cc)
only_memory (Short (short.Tip height hash low top)) is = absurd (cc)
only_memory (Short (short.Pinned pin)) is = absurd (cc)
only_memory (Short short.Released) is = absurd (cc)
only_memory (Short short.Memory) is = refl
only_memory (Short (short.BadRequest at)) is = absurd (cc)
only_memory (Short (short.NotHeld low high)) is = absurd (cc)
only_memory (Short short.NoSuch) is = absurd (cc)
only_memory (Short short.BaseAbove) is = absurd (cc)
only_memory (Short short.PinsFull) is = absurd (cc)
only_memory (Short short.PinUnknown) is = absurd (cc)
only_memory (Short (short.Refused refusal)) is = absurd (cc)
only_memory (Short (short.NotTip tip)) is = absurd (cc)
only_memory (Short short.AtStart) is = absurd (cc)
only_memory (Short (short.TooDeep floor)) is = absurd (cc)
only_memory (Short short.JournalFull) is = absurd (cc)
only_memory (Grown answer) is = absurd (cc)

pub answers_tell_of_memory : AnswersTellOfMemory
answers_tell_of_memory answers fit =
    let cut = all_frames answers fit in (
      record { front = cut; partial = nothing_at_end },
      λ frames left other.
          let same = same_cut (flat_map frame_of answers) (map as_frame answers) frames [] left cut nothing_at_end other.front other.partial in (sym same.0, sym same.1),
      only_memory,
    )
