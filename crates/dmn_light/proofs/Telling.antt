-- The bytes of answers tell which of them are Memory.
use Rattle.std.proofs.Common.{◌≡◌, List, [], ◌∷◌, map, refl, sym, ap, ◌∙◌}
use Rattle.std.specs.List.{All, flat_map}
use Rattle.std.proofs.lemmas.List.Concat.{flat_map-cons}
use Rattle.std.proofs.lemmas.List.Elements.{All-head, All-tail}
use Rattle.dmn_client.specs.declared.fault.ClientFault.TheVariants as faults
use Rattle.dmn_frames.specs.Frames.{frame_at, Begins}
use Rattle.dmn_frames.proofs.Cutting.{nothing_at_end, same_cut}
use Rattle.dmn_frames.proofs.Framing.{framed_first}
use Rattle.dmn_light.specs.declared.answer.Answer.{Answer}
use Rattle.dmn_light.specs.declared.answer.Answer.TheVariants.{Added, Holds, BadRequest, Refused}
use Rattle.dmn_light.specs.Answers.{Fits, body_of, frame_of, lack, status_of}
use Rattle.dmn_light.specs.Laws.{AnswersTellOfMemory, as_frame}

all_frames : (answers : List Answer) → All Fits answers → Begins (flat_map frame_of answers) (map as_frame answers) []
all_frames [] fit = refl
all_frames (answer ∷ answers) fit = (
  flat_map frame_of answers,
  ap frame_at (flat_map-cons frame_of answer answers) ∙ framed_first (status_of answer) (body_of answer) (flat_map frame_of answers) (All-head Fits answer answers fit),
  all_frames answers (All-tail Fits answer answers fit),
)

only_memory : (answer : Answer) → status_of answer ≡ 1 → answer ≡ lack
only_memory Added is = absurd (cc)
only_memory (Holds applied) is = absurd (cc)
only_memory (BadRequest at) is = absurd (cc)
only_memory (Refused faults.Memory) is = refl
only_memory (Refused (faults.DiffForm at)) is = absurd (cc)
only_memory (Refused (faults.WrongBase held)) is = absurd (cc)
only_memory (Refused faults.UnknownHeader) is = absurd (cc)
only_memory (Refused faults.BadBranch) is = absurd (cc)
only_memory (Refused faults.BadCoinbase) is = absurd (cc)
only_memory (Refused (faults.BadRoot committed computed)) is = absurd (cc)
only_memory (Refused (faults.HeaderDiffers held)) is = absurd (cc)
only_memory (Refused faults.HeadersFull) is = absurd (cc)

pub answers_tell_of_memory : AnswersTellOfMemory
answers_tell_of_memory answers fit =
    let cut = all_frames answers fit in (
      record { front = cut; partial = nothing_at_end },
      λ frames left other.
          let same = same_cut (flat_map frame_of answers) (map as_frame answers) frames [] left cut nothing_at_end other.front other.partial in (sym same.0, sym same.1),
      only_memory,
    )
