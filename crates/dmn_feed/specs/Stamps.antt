-- When answers are sent: one after another, each behind the moment at which its turn began.
use Rattle.std.specs.Prelude.{◌≡◌, ◌⊎◌, ℕ, ◌<◌, List, [], ◌∷◌, ◌++◌, length, take}
use Rattle.std.specs.List.{All, flat_map}
use Rattle.dmn_desk.specs.declared.answer.Answer.{Answer}
use Rattle.dmn_desk.specs.Texts.{Fits, frame_of}
use Rattle.dmn_frames.specs.Stamps.{IsBehind}
use Rattle.dmn_outside.specs.Line.{LineView}

-- the moments of the bytes of these answers, turn by turn: a turn begins where the one before ended
abbrev pub InTurns : ℕ → List Answer → List ℕ → ℕ → Type 0
InTurns from [] stamps to = (stamps ≡ []) × (to ≡ from)
InTurns from (answer ∷ answers) stamps to = (mid : ℕ) × (here later : List ℕ) × (stamps ≡ here ++ later) × (length here ≡ length (frame_of answer)) × All (IsBehind from mid) here × InTurns mid answers later to

-- nothing, or a front of an answer's frame, less than all of it
abbrev pub IsPart : List ℕ → Type 0
IsPart part = (part ≡ []) ⊎ ((answer : Answer) × Fits answer × (count : ℕ) × (count < length (frame_of answer)) × (part ≡ take count (frame_of answer)))

-- What a run sent, and when: the frames of these answers, turn by turn, and where the line failed a part of one more,
-- behind them.
pub record SentInTurns (from to : ℕ) (old new : LineView) : Type 0 where
  pub answers : List Answer
  pub fit : All Fits answers
  pub part : List ℕ
  pub few : IsPart part
  pub sent : new.talk.sent ≡ old.talk.sent ++ (flat_map frame_of answers ++ part)
  pub last : ℕ
  pub stamps : List ℕ
  pub turns : InTurns from answers stamps last
  pub rest : List ℕ
  pub long : length rest ≡ length part
  pub behind : All (IsBehind last to) rest
  pub moments : new.moments ≡ record old.moments { sent = old.moments.sent ++ (stamps ++ rest) }
