-- That the diff to a block's list is accepted, where the client holds the diff's base and has the block's header.
use Rattle.std.specs.Prelude.{◌≡◌, ◌⊎◌, ◌≤◌, List, [], length, Some, Ok, Contains}
use Rattle.dmn_block.specs.declared.frame.BlockFrame.{BlockFrame}
use Rattle.dmn_block.specs.Defs.{most_items}
use Rattle.dmn_block.specs.State.{State}
use Rattle.dmn_branch.specs.Coinbases.{coinbase_of}
use Rattle.dmn_branch.specs.Replay.{replay}
use Rattle.dmn_client.specs.Headers.{header_root}
use Rattle.dmn_client.specs.Sound.{HoldsBase}
use Rattle.dmn_client.specs.Step.{ClientState, client_step}
use Rattle.dmn_diff.specs.Change.{fresh, gone}
use Rattle.dmn_diff.specs.declared.diff.Diff.{Diff}
use Rattle.dmn_diff.specs.Defs.{diff_text}
use Rattle.dmn_rows.specs.declared.start.StartRecord.{StartRecord}
use Rattle.dmn_sml.specs.declared.entry.SmlEntry.{SmlEntry}
use Rattle.dmn_sml.specs.Defs.{simple}
use Rattle.dmn_light_laws.specs.Branches.{AreBodies, IsBehind}

-- the empty list, or the simplified list of a state of the replay
abbrev pub IsBase : StartRecord → List BlockFrame → List SmlEntry → Type 0
IsBase start blocks base = (base ≡ []) ⊎ ((from : State) × Contains (replay start blocks) from × (base ≡ simple from.rows))

-- the diff from a list to that of a state, with the first transaction of the state's block and the branch that proves it
pub record IsDiffTo (d : Diff) (base : List SmlEntry) (state : State) : Type 0 where
  pub length : length d.base.0 ≡ 32
  pub block : d.block ≡ state.hash
  pub coinbase : coinbase_of state ≡ Some (record { tx = d.coinbase; branch = d.branch })
  pub deleted : d.deleted ≡ gone base (simple state.rows)
  pub entries : d.entries ≡ fresh base (simple state.rows)

-- The diff from what a client holds, or from the empty list, to the list of the rows that replay has behind a block is
-- accepted, where the client's header of the block has its root; and the client then holds that list. The block has no more
-- transactions than a body has bytes.
abbrev pub IsCompleteBehind : StartRecord → List BlockFrame → BlockFrame → State → List SmlEntry → Diff → ClientState → Type 0
IsCompleteBehind start blocks block state base d c =
    AreBodies start blocks → IsBehind start blocks block state → length block.txs ≤ most_items
    → IsBase start blocks base → IsDiffTo d base state → HoldsBase c d base → header_root d.block c.headers ≡ Some block.merkle
    → client_step c (diff_text d) ≡ Ok (record { headers = c.headers; held = d.block; list = simple state.rows })
