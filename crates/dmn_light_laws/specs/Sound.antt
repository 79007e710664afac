-- What a diff that a client accepted says of its list, where the client's header is that of a block that replay accepted.
use Rattle.std.specs.Prelude.{◌≡◌, ◌⊎◌, ℕ, List, Some, Ok}
use Rattle.dmn_block.specs.declared.frame.BlockFrame.{BlockFrame}
use Rattle.dmn_block.specs.State.{State}
use Rattle.dmn_bytes.specs.Law.{IsBytes}
use Rattle.dmn_client.specs.Collision.{Collision, ZeroText}
use Rattle.dmn_client.specs.Headers.{header_root}
use Rattle.dmn_client.specs.Sound.{all_hashed}
use Rattle.dmn_client.specs.Step.{ClientState, EntriesFit, client_step}
use Rattle.dmn_diff.specs.declared.diff.Diff.{Diff}
use Rattle.dmn_diff.specs.Defs.{IsDiffText}
use Rattle.dmn_rows.specs.declared.start.StartRecord.{StartRecord}
use Rattle.dmn_sml.specs.Defs.{IsAscending, simple}
use Rattle.dmn_light_laws.specs.Branches.{AreBodies, IsBehind}

-- what each client's list keeps: it ascends, and each field of each entry has its length
pub record KeepsList (c : ClientState) : Type 0 where
  pub ascends : IsAscending c.list
  pub fits : EntriesFit c.list

-- The client's list is the simplified list of these rows' state; or two of the texts that were hashed have one digest, or one
-- has a digest of zeros. They are texts of the client's list, of the proof, of the block or of the state's list, or pairs on
-- their way up.
abbrev pub IsListOf : ClientState → Diff → BlockFrame → State → Type 0
IsListOf c d block state =
    (c.list ≡ simple state.rows)
    ⊎ (Collision (all_hashed c.list d block.txs (simple state.rows)) ⊎ ZeroText (all_hashed c.list d block.txs (simple state.rows)))

-- A client that accepted a diff which names a block that replay accepted has the list of the rows that replay has behind that
-- block, where the client's header of it has the block's root.
abbrev pub IsSoundBehind : StartRecord → List BlockFrame → BlockFrame → State → ClientState → List ℕ → ClientState → Type 0
IsSoundBehind start blocks block state old text new =
    AreBodies start blocks → IsBehind start blocks block state
    → IsBytes text → KeepsList old → client_step old text ≡ Ok new
    → new.held ≡ block.hash → header_root block.hash old.headers ≡ Some block.merkle
    → (d : Diff) × IsDiffText text d × IsListOf new d block state
