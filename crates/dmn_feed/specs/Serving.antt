-- What may be answered to frames, and when it is sent: want of memory is free.
use Rattle.std.specs.Prelude.{◌≡◌, ℕ, List, [], ◌∷◌, ◌++◌, length}
use Rattle.std.specs.List.{All}
use Rattle.dmn_desk.specs.declared.answer.Answer.{Answer}
use Rattle.dmn_desk.specs.declared.answer.Answer.TheVariants.{Short}
use Rattle.dmn_desk.specs.declared.answer.ShortAnswer.TheVariants.{Memory}
use Rattle.dmn_desk.specs.Ask.{answer_of}
use Rattle.dmn_desk.specs.Asked.{OrMemory}
use Rattle.dmn_desk.specs.Kinds.{kind_of, takes_no_memory}
use Rattle.dmn_desk.specs.Texts.{frame_of}
use Rattle.dmn_frames.specs.Frames.{Frame}
use Rattle.dmn_registry.specs.Machine.{Machine}

-- From m the frame may be answered so, with the machine n after it: by the machine's answer, or by Memory, which
-- changes nothing.
abbrev pub MayAnswer : Machine → Frame → Answer → Machine → Type 0
MayAnswer m frame answer n = OrMemory (Short Memory) (takes_no_memory (kind_of frame.kind)) (answer_of m frame.kind frame.body) m answer n

-- From m these frames may be answered so, one after another, with the machine n after them. The moments at which each
-- answer's bytes are sent stand one behind the other, and P holds of the machine after an answer and each of its moments.
abbrev pub Serves : (Machine → ℕ → Type 0) → Machine → List Frame → List Answer → List ℕ → Machine → Type 0
Serves P m [] [] moments n = (n ≡ m) × (moments ≡ [])
Serves P m (frame ∷ frames) (answer ∷ answers) moments n =
    (mid : Machine) × (here later : List ℕ) × MayAnswer m frame answer mid × (moments ≡ here ++ later) × (length here ≡ length (frame_of answer)) × All (P mid) here × Serves P mid frames answers later n
Serves P m [] (answer ∷ answers) moments n = ⊥
Serves P m (frame ∷ frames) [] moments n = ⊥
