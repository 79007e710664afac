-- How many commitments of a type a block mines.
use Rattle.std.specs.Prelude.{ℕ, ◌≤◌, ◌==◌, ◌&&◌, Bool, filter, length}
use Rattle.dmn_block.specs.State.{State}
use Rattle.dmn_payloads.specs.declared.mined.MinedAt.{MinedAt}

-- it was mined at the height, and is of the type
abbrev pub is_new : ℕ → ℕ → MinedAt → Bool
is_new height kind m = (m.height == height) && (m.commitment.kind == kind)

-- no two commitments of one type were mined at the state's height
abbrev pub MinesOnce : State → Type 0
MinesOnce state = (kind : ℕ) → length (filter (is_new state.height kind) state.mined) ≤ 1
