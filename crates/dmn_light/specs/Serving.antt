-- What may be answered to frames: want of memory is free, and changes nothing.
use Rattle.std.specs.Prelude.{◌≡◌, ◌⊎◌, ℕ, List, [], ◌∷◌}
use Rattle.std.specs.List.{flat_map}
use Rattle.dmn_client.specs.Step.{ClientState, new_client}
use Rattle.dmn_frames.specs.Frames.{Frame}
use Rattle.dmn_light.specs.declared.answer.Answer.{Answer}
use Rattle.dmn_light.specs.Answers.{frame_of, lack}
use Rattle.dmn_light.specs.Ask.{answer_of}

-- the answer that is defined, with what is held after it; or Memory, and nothing changed
abbrev pub OrLack : Answer × ClientState → ClientState → Answer → ClientState → Type 0
OrLack defined c answer n = (defined ≡ (answer, n)) ⊎ ((answer ≡ lack) × (n ≡ c))

-- from c the frame may be answered so, with n after it
abbrev pub MayAnswer : ClientState → Frame → Answer → ClientState → Type 0
MayAnswer c frame answer n = OrLack (answer_of c frame.kind frame.body) c answer n

-- from c these frames may be answered so, one after another, with n after them
abbrev pub Serves : ClientState → List Frame → List Answer → ClientState → Type 0
Serves c [] [] n = n ≡ c
Serves c (frame ∷ frames) (answer ∷ answers) n = (mid : ClientState) × MayAnswer c frame answer mid × Serves mid frames answers n
Serves c [] (answer ∷ answers) n = ⊥
Serves c (frame ∷ frames) [] n = ⊥

-- ---- with memory for each of them

-- the answers to frames, one after another, none of which wants memory
abbrev pub answers_from : ClientState → List Frame → List Answer
answers_from c [] = []
answers_from c (frame ∷ frames) = (answer_of c frame.kind frame.body).0 ∷ answers_from (answer_of c frame.kind frame.body).1 frames

-- the bytes that a new client sends for frames, where none of them wants memory
abbrev pub client_bytes : List Frame → List ℕ
client_bytes frames = flat_map frame_of (answers_from new_client frames)
