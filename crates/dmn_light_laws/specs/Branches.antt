-- Blocks that came as bodies of bytes, and the states that replay has behind them.
use Rattle.std.specs.Prelude.{◌≡◌, ℕ, List, length, Some, Contains}
use Rattle.std.specs.List.{AllByRecursion}
use Rattle.dmn_block.specs.declared.frame.BlockFrame.{BlockFrame}
use Rattle.dmn_block.specs.Defs.{HasItsIds, IsBlockText}
use Rattle.dmn_block.specs.State.{State}
use Rattle.dmn_branch.specs.Replay.{replay}
use Rattle.dmn_bytes.specs.Law.{IsBytes}
use Rattle.dmn_rows.specs.declared.start.StartRecord.{StartRecord}

-- bytes are the block's text, and it has the ids of its transactions
pub record HasBody (block : BlockFrame) : Type 0 where
  pub body : List ℕ
  pub bytes : IsBytes body
  pub text : IsBlockText body block
  pub ids : HasItsIds block

-- a start record whose hash has its length, and blocks that came so
pub record AreBodies (start : StartRecord) (blocks : List BlockFrame) : Type 0 where
  pub hash : length start.hash.0 ≡ 32
  pub bodies : AllByRecursion HasBody blocks

-- This is the state behind this block, in the replay of these blocks. A block that is refused leaves none.
pub record IsBehind (start : StartRecord) (blocks : List BlockFrame) (block : BlockFrame) (state : State) : Type 0 where
  pub among : Contains (replay start blocks) state
  pub block_is : state.block ≡ Some block
