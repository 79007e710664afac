-- The states after blocks, from a start record on.
use Rattle.std.specs.Prelude.{◌≡◌, ◌+◌, length, List, [], ◌∷◌, ◌++◌, Result, Ok, Err}
use Rattle.dmn_block.specs.declared.frame.BlockFrame.{BlockFrame}
use Rattle.dmn_block.specs.declared.refusal.Refusal.{Refusal}
use Rattle.dmn_block.specs.State.{State, origin}
use Rattle.dmn_rows.specs.declared.start.StartRecord.{StartRecord}
use Rattle.dmn_branch.specs.Step.{step}

-- a refused block leaves the history as it is
abbrev pub with_next : List State → Result State Refusal → List State
with_next history (Ok next) = history ++ next ∷ []
with_next history (Err refusal) = history

abbrev pub replay_on : StartRecord → List State → List BlockFrame → List State
replay_on start history [] = history
replay_on start history (block ∷ blocks) = replay_on start (with_next history (step start history block)) blocks

-- the history of these blocks
abbrev pub replay : StartRecord → List BlockFrame → List State
replay start blocks = replay_on start (origin start ∷ []) blocks

-- no block is refused: there is a state for each, and the one before the first
abbrev pub IsLawful : StartRecord → List BlockFrame → Type 0
IsLawful start blocks = length (replay start blocks) ≡ 1 + length blocks
