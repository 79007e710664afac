-- Words for the private parts, which work on rows as they are stored.
use Rattle.std.specs.Prelude.{◌≡◌, ℕ, ◌≤◌, ◌+◌, ◌-◌, ◌++◌, Bool, List, drop, length, map, slice_get, Option, None, Some, Result, Ok, if◌then◌else◌}
use Rattle.std.specs.List.{All}
use Rattle.dmn_block.specs.declared.frame.BlockFrame.{BlockFrame}
use Rattle.dmn_block.specs.declared.refusal.Refusal.{Refusal}
use Rattle.dmn_block.specs.Shape.{broken_rule}
use Rattle.dmn_payloads.specs.declared.commitment.Commitment.{Commitment}
use Rattle.dmn_payloads.specs.declared.mined.MinedAt.{MinedAt}
use Rattle.dmn_payloads.specs.declared.payloads.CbTx.{CbTx}
use Rattle.dmn_quorums.specs.Duty.{base_of, is_in_window, is_done, mined_at, undone, types_of}
use Rattle.dmn_quorums.specs.Forming.{Formed, inside, outside}
use Rattle.dmn_block.specs.State.{State}
use Rattle.dmn_indexes.specs.declared.indexes.Indexes.{Indexes}
use Rattle.dmn_indexes.specs.Version.{by_hash, values}
use Rattle.dmn_indexes.specs.Working.{Worked, listing}
use Rattle.dmn_rows.specs.contracts.row.MnRowPartialEq.TheImpl as rows_alike
use Rattle.dmn_rows.specs.declared.profile.Profile.{Profile}
use Rattle.dmn_rows.specs.declared.profile.QuorumParams.{QuorumParams}
use Rattle.dmn_rows.specs.declared.row.MnRow.{MnRow}
use Rattle.dmn_rows.specs.declared.rule.Rule.{Rule}
use Rattle.dmn_rows.specs.declared.verdict.Verdict.{Verdict}
use Rattle.dmn_rows.specs.Distinct.{HasDistinctKeys}
use Rattle.dmn_rows.specs.Listing.{IsAscending}
use Rattle.dmn_rows.specs.Rows.{Outputs, plain_rows}
use Rattle.dmn_rows.specs.Start.{most_outputs}
use Rattle.dmn_tx.specs.declared.tx.Tx.{Tx}
use Rattle.dmn_versions.specs.declared.node.Root.{Root}
use Rattle.dmn_versions.specs.Trees.{reads}
use Rattle.dmn_tx.specs.Tx.{is_special}
use Rattle.dmn_branch.specs.declared.held.HeightVersion.{HeightVersion}
use Rattle.dmn_branch.specs.Quorums.{Committed, Punished}
use Rattle.dmn_branch.specs.Stands.{Kept, Keeping, StandsAt, low_kept, tip_kept}
use Rattle.dmn_branch.specs.Step.{Setting, Counted, Outcome, changed_by, rule_of, transactions, step_from, events_from, coinbase_in, most_events, most_rows}

-- what the working rows keep: distinct keys, the order of hashes, and no penalty of a later height
pub record IsWorking (height : ℕ) (rows : List MnRow) : Type 0 where
  pub keys : HasDistinctKeys rows
  pub ascending : IsAscending rows
  pub penalties : All (λ row. row.penalty_at ≤ height) rows

-- what the code hands on of the setting of a step: the outputs are those of the working list
pub record Given : Type 0 where
  pub profile : Profile
  pub height : ℕ
  pub verdicts : List Verdict
  pub formed : List Formed

-- the setting, with these outputs
abbrev pub setting_with : Given → Outputs → Setting
setting_with given outputs = record { profile = given.profile; height = given.height; outputs = outputs; verdicts = given.verdicts; formed = given.formed }

-- what is given of a block at a height
abbrev pub given_of : Profile → List Formed → ℕ → BlockFrame → Given
given_of profile formed height block = record { profile = profile; height = height; verdicts = block.verdicts; formed = formed }

-- the rows of a working list as they are seen at a height, its events, and what the block has of commitments
abbrev pub counted_at : ℕ → Worked → Committed → Counted
counted_at height list committed = record { rows = plain_rows height list.rows; events = list.events; committed = committed }

-- the same without commitments
abbrev pub punished_at : ℕ → Worked → Punished
punished_at height list = record { rows = plain_rows height list.rows; events = list.events }

-- the rule that a transaction breaks
unfoldable pub rule_on : Setting → Counted → Tx → Option Verdict → Option Rule
rule_on s now tx verdict = if is_special tx.version tx.kind then rule_of s now tx verdict else None

-- what is there after a transaction that breaks none
unfoldable pub after_on : Setting → Counted → Tx → Counted
after_on s now tx = if is_special tx.version tx.kind then changed_by s tx now else now

-- the working list after such a transaction, and what the block has of commitments then
pub record IsAfter (given : Given) (old : Worked) (before : Committed) (tx : Tx) (new : Worked) (after : Committed) : Type 0 where
  pub counted : counted_at given.height new after ≡ after_on (setting_with given old.outputs) (counted_at given.height old before) tx
  pub outputs : new.outputs ≡ old.outputs
  pub working : IsWorking given.height new.rows

-- the rows and outputs of a working list, its events, and the block's commitments that aren't null
abbrev pub outcome_of : Worked → List Commitment → Outcome
outcome_of list mined = record { list = listing list; events = list.events; mined = mined }

-- what is there after the transactions from a place on
abbrev pub from_place : Given → BlockFrame → Worked → Committed → ℕ → Result Counted Refusal
from_place given block list committed place = transactions (setting_with given list.outputs) place (drop place block.txs) (counted_at given.height list committed)

-- ---- the quorums of a block's height, by what a branch keeps

abbrev pub formed_kept : QuorumParams → Bool → Option Kept → Formed
formed_kept params done None = outside params done
formed_kept params done (Some kept) = inside params done kept.hash kept.rows

abbrev pub formed_in : Keeping → ℕ → QuorumParams → Formed
formed_in branch height params =
    if is_in_window params branch.first height
    then formed_kept params (is_done params height branch.mined) (slice_get branch.lists (base_of params height - low_kept branch))
    else outside params (is_done params height branch.mined)

abbrev pub all_formed_in : Keeping → ℕ → List (Option QuorumParams) → List Formed
all_formed_in branch height quorums = map (formed_in branch height) (types_of quorums)

-- commitments of a block at this height were added
pub record IsMinedAt (height : ℕ) (old new : List MinedAt) : Type 0 where
  pub commitments : List Commitment
  pub is : new ≡ old ++ mined_at height commitments

-- no commitment stands above the tip
abbrev pub IsSettled : Keeping → Type 0
IsSettled branch = undone (tip_kept branch) branch.mined ≡ branch.mined

-- there is a state, and what is kept stands for it
abbrev pub StandsIn : Kept → Option State → Type 0
StandsIn kept None = ⊥
StandsIn kept (Some state) = StandsAt kept state

-- These commitments are the block's, and are added behind those of before; to those of a state the same ones are added.
pub record AddsMined (state after : State) (old new : List MinedAt) : Type 0 where
  pub commitments : List Commitment
  pub mined : after.mined ≡ state.mined ++ mined_at after.height commitments
  pub is : new ≡ old ++ mined_at after.height commitments

-- This is kept of the state after a block of so many events, which no rule refuses, and the block's commitments were added.
pub record Follows (profile : Profile) (formed : List Formed) (state : State) (block : BlockFrame) (events : ℕ) (next : Kept) (old new : List MinedAt) : Type 0 where
  pub after : State
  pub stepped : step_from profile formed state block ≡ Ok after
  pub counted : events ≡ events_from profile formed state block
  pub stands : StandsAt next after
  pub added : AddsMined state after old new

-- no more events, rows and outputs than a block and a list may have
pub record IsWithin (list : Worked) : Type 0 where
  pub events : list.events ≤ most_events
  pub masternodes : length list.rows ≤ most_rows
  pub collaterals : length list.outputs ≤ most_outputs

-- This is kept of the tip, the block has the right shape to follow on it, the block's coinbase has this payload, and the working
-- list is the tip's, before the first event.
pub record IsTip (tip : Kept) (last : HeightVersion) (block : BlockFrame) (coinbase : CbTx) (list : Worked) : Type 0 where
  pub hash : tip.hash ≡ last.hash
  pub root : tip.root ≡ last.root
  pub shape : broken_rule block tip.hash tip.height ≡ None
  pub payload : coinbase_in block.txs ≡ Some coinbase
  pub next : coinbase.height ≡ tip.height + 1
  pub same : listing list ≡ record { rows = tip.rows; outputs = tip.outputs }
  pub none : list.events ≡ 0

-- what `==` answers at stored rows
abbrev pub same_row : MnRow → MnRow → Bool
same_row = (rows_alike.ghosts).eq

-- a tree of rows, read through some height, is these rows, each under its hash
pub record IsTreeOf (ix : Indexes) (root : Root) (list : List MnRow) : Type 0 where
  pub height : ℕ
  pub hashes : reads ix.rows root ≡ by_hash (values (reads ix.rows root))
  pub rows : plain_rows height (values (reads ix.rows root)) ≡ list
