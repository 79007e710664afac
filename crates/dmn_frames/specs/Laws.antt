-- What the definitions say of each other.
use Rattle.std.specs.Prelude.{◌≡◌, ℕ, List}
use Rattle.dmn_frames.specs.Frames.{Frame, Cuts}

-- each text is cut into frames, and in one way
abbrev pub EachTextIsCutOnce : Type 0
EachTextIsCutOnce = (text : List ℕ) → ((frames : List Frame) × (left : List ℕ) × Cuts text frames left)
    × ((frames others : List Frame) (left rest : List ℕ) → Cuts text frames left → Cuts text others rest → (frames ≡ others) × (left ≡ rest))
