-- That the diff which a machine answers to a request is accepted by a client that holds its base.
use Rattle.std.specs.Prelude.{◌≡◌, ℕ, ◌≤◌, length, MatchBool, Some, Ok}
use Rattle.dmn_block.specs.declared.frame.BlockFrame.{BlockFrame}
use Rattle.dmn_block.specs.Defs.{most_items}
use Rattle.dmn_block.specs.State.{State}
use Rattle.dmn_branch.specs.Asked.{rows_at}
use Rattle.dmn_branch.specs.Machine.{MachineState, branch, height_of, state_at}
use Rattle.dmn_bytes.specs.declared.hash.Hash256.{Hash256}
use Rattle.dmn_bytes.specs.Points.{is_zero}
use Rattle.dmn_client.specs.Headers.{header_root}
use Rattle.dmn_client.specs.Step.{ClientState, client_step}
use Rattle.dmn_desk.specs.declared.answer.Answer.TheVariants.{Grown}
use Rattle.dmn_desk.specs.declared.answer.GrownAnswer.TheVariants as grown
use Rattle.dmn_desk.specs.Ask.{diff}
use Rattle.dmn_diff.specs.declared.diff.Diff.{Diff}
use Rattle.dmn_diff.specs.Defs.{diff_text}
use Rattle.dmn_sml.specs.Defs.{simple}
use Rattle.dmn_light_laws.specs.Branches.{AreBodies}

-- the client holds the base of a diff: none is asked for, or it holds the list of the base's rows
abbrev pub HoldsAsked : MachineState → Hash256 → ClientState → Type 0
HoldsAsked m base c = MatchBool (is_zero base.0) (Unit {0}) ((base ≡ c.held) × (c.list ≡ simple (rows_at m (height_of m base))))

-- where the client's header of the diff's block has this state's block's root, it takes the diff, and holds the state's list
abbrev pub Takes : ClientState → Diff → State → Type 0
Takes c d state =
    (block : BlockFrame) → state.block ≡ Some block → length block.txs ≤ most_items → header_root d.block c.headers ≡ Some block.merkle
    → client_step c (diff_text d) ≡ Ok (record { headers = c.headers; held = d.block; list = simple state.rows })

-- What a machine answers to Diff is the diff to the list of a height of the asked hash, and a client that holds the base and
-- has the block's header takes it.
abbrev pub IsTakenAsAsked : MachineState → Hash256 → Hash256 → Diff → ClientState → Type 0
IsTakenAsAsked m base block d c =
    AreBodies m.start (branch m) → length base.0 ≡ 32 → diff m base block ≡ Grown (grown.Diff d) → HoldsAsked m base c
    → (height : ℕ) × (state : State) × (height_of m block ≡ Some height) × (state_at m height ≡ Some state) × (d.block ≡ state.hash) × Takes c d state
