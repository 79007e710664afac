-- Quorums in a step: what is known of each type at the height of a block, and what a commitment does (DIP-0006).
use Rattle.std.specs.Prelude.{ℕ, ◌+◌, ◌-◌, ◌==◌, Bool, List, [], ◌∷◌, ◌++◌, map, slice_get, Option, None, Some, if◌then◌else◌}
use Rattle.std.specs.Result.{result_ok}
use Rattle.dmn_block.specs.State.{State}
use Rattle.dmn_bytes.specs.declared.hash.Hash256.{Hash256}
use Rattle.dmn_bytes.specs.Format.{whole}
use Rattle.dmn_payloads.specs.declared.commitment.Commitment.{Commitment}
use Rattle.dmn_payloads.specs.declared.mined.MinedAt.{MinedAt}
use Rattle.dmn_payloads.specs.Commitments.{mined as mined_payload, is_null}
use Rattle.dmn_quorums.specs.Bitset.{bit_at}
use Rattle.dmn_quorums.specs.Duty.{base_of, is_in_window, is_done, types_of}
use Rattle.dmn_quorums.specs.Forming.{Formed, case_of, inside, members_in, outside}
use Rattle.dmn_quorums.specs.Rules as quorums
use Rattle.dmn_rows.specs.declared.profile.Profile.{Profile}
use Rattle.dmn_rows.specs.declared.profile.QuorumParams.{QuorumParams}
use Rattle.dmn_rows.specs.declared.row.MnRow.{MnRow}
use Rattle.dmn_rows.specs.declared.rule.Rule.{Rule}
use Rattle.dmn_rows.specs.declared.verdict.Verdict.{Verdict}
use Rattle.dmn_standing.specs.Standing.{punish_in}
use Rattle.dmn_tx.specs.declared.kinds.TheConstants.{COMMITMENT_TX}
use Rattle.dmn_tx.specs.declared.tx.Tx.{Tx}
use Rattle.dmn_branch.specs.Events.{once_there}

-- ---- what is known of each type

-- the state at a height, in a history from the height before the first block on
abbrev pub state_in : ℕ → List State → ℕ → Option State
state_in first history height = slice_get history (height - (first - 1))

-- by the state of the base block
abbrev pub formed_by : QuorumParams → List MinedAt → ℕ → Option State → Formed
formed_by params mined height None = outside params (is_done params height mined)
formed_by params mined height (Some base) = inside params (is_done params height mined) base.hash base.rows

-- The quorum of a type, for a block at a height that follows a history with these mined commitments. Its members come
-- from the list of its base block, which is asked for in its window alone.
abbrev pub formed_at : ℕ → List State → List MinedAt → ℕ → QuorumParams → Formed
formed_at first history mined height params =
    if is_in_window params first height
    then formed_by params mined height (state_in first history (base_of params height))
    else outside params (is_done params height mined)

-- the quorum of each type
abbrev pub all_formed : Profile → ℕ → List State → List MinedAt → ℕ → List Formed
all_formed profile first history mined height = map (formed_at first history mined height) (types_of profile.quorums)

-- ---- what a block has of commitments so far

-- the types of them all, and those that aren't null
pub record Committed : Type 0 where
  pub kinds : List ℕ
  pub mined : List Commitment

abbrev pub none_committed : Committed
none_committed = record { kinds = []; mined = [] }

-- one more
abbrev pub with_commitment : Commitment → Committed → Committed
with_commitment v now = record { kinds = now.kinds ++ v.kind ∷ []; mined = if is_null v then now.mined else now.mined ++ v ∷ [] }

-- ---- a transaction with a commitment

-- the height that its payload tells, and the commitment
abbrev pub commitment_in : Tx → Option (ℕ × Commitment)
commitment_in tx = if tx.kind == COMMITMENT_TX then result_ok (whole mined_payload tx.payload) else None

-- the first rule on a commitment that is broken
abbrev pub commitment_rule : List Formed → Committed → ℕ → Option Verdict → Option (ℕ × Commitment) → Option Rule
commitment_rule formed now height verdict None = None
commitment_rule formed now height verdict (Some (told, v)) = quorums.judge_of (case_of formed now.kinds told v.kind) height v verdict

-- ---- punishment

-- the rows, and how many events there were so far
pub record Punished : Type 0 where
  pub rows : List MnRow
  pub events : ℕ

-- the row of a hash is punished, if it is there
abbrev pub punish_one : ℕ → Hash256 → Punished → Punished
punish_one height hash now = record { rows = punish_in height hash now.rows; events = now.events + once_there (Some hash) now.rows }

-- unless it is valid
abbrev pub punish_unless : Bool → ℕ → Hash256 → Punished → Punished
punish_unless is_valid height hash now = if is_valid then now else punish_one height hash now

-- the members whose bit isn't set are punished, one after another; the first of these members has this place
abbrev pub punish_absent : ℕ → List ℕ → ℕ → List Hash256 → Punished → Punished
punish_absent height bits place [] now = now
punish_absent height bits place (hash ∷ members) now = punish_absent height bits (place + 1) members (punish_unless (bit_at bits place) height hash now)

-- what an accepted commitment does to the rows: none where it is null
abbrev pub punish_by : List Formed → ℕ → Commitment → Punished → Punished
punish_by formed height v now = if is_null v then now else punish_absent height v.valid.bytes 0 (members_in formed v.kind) now
