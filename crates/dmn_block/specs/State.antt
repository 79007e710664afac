-- What a registry knows behind a block.
use Rattle.std.specs.Prelude.{ℕ, ◌-◌, List, [], Option, None}
use Rattle.dmn_bytes.specs.declared.hash.Hash256.{Hash256}
use Rattle.dmn_rows.specs.declared.row.MnRow.{MnRow}
use Rattle.dmn_rows.specs.declared.start.StartRecord.{StartRecord}
use Rattle.dmn_rows.specs.Rows.{Outputs}
use Rattle.dmn_block.specs.declared.frame.BlockFrame.{BlockFrame}
use Rattle.dmn_payloads.specs.declared.mined.MinedAt.{MinedAt}

pub record State : Type 0 where
  pub height : ℕ
  -- the block's hash
  pub hash : Hash256
  -- the block; none at the height before the first
  pub block : Option BlockFrame
  -- the list of masternodes, ascending by the hashes of their registrations; each penalty is that in force after the block
  pub rows : List MnRow
  -- the unspent outputs of 1,000 DASH, ascending by outpoint
  pub outputs : Outputs
  -- the commitments that were mined and aren't null, in their order
  pub mined : List MinedAt

-- the state at the height before the first block
abbrev pub origin : StartRecord → State
origin start = record { height = start.first - 1; hash = start.hash; block = None; rows = []; outputs = start.outputs; mined = [] }
