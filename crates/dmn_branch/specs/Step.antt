-- The state after a block, or the rule that refuses it (DIP-0003, DIP-0004, DIP-0006).
use Rattle.std.specs.Prelude.{ℕ, ◌+◌, ◌==◌, not, nat_lt, List, [], ◌∷◌, ◌++◌, length, drop, find, Option, None, Some, Result, Ok, Err, if◌then◌else◌}
use Rattle.std.specs.Option.{option_map, option_or}
use Rattle.std.specs.Result.{result_ok}
use Rattle.std.specs.Str.{bytes_eq}
use Rattle.dmn_block.specs.declared.frame.BlockFrame.{BlockFrame}
use Rattle.dmn_block.specs.declared.refusal.Refusal.{Refusal}
use Rattle.dmn_block.specs.Shape.{Numbered, when, first_of, by_block, by_tx, broken_rule}
use Rattle.dmn_block.specs.Spend.{spend}
use Rattle.dmn_block.specs.State.{State, origin}
use Rattle.dmn_bytes.specs.declared.hash.Hash256.{Hash256}
use Rattle.dmn_bytes.specs.Format.{whole}
use Rattle.dmn_payloads.specs.Payloads.{cb}
use Rattle.dmn_payloads.specs.declared.commitment.Commitment.{Commitment}
use Rattle.dmn_payloads.specs.declared.payloads.CbTx.{CbTx}
use Rattle.dmn_quorums.specs.Duty.{mined_at}
use Rattle.dmn_quorums.specs.Forming.{Formed, missing}
use Rattle.dmn_rows.specs.declared.limits.TheConstants.{MOST_MASTERNODES}
use Rattle.dmn_rows.specs.declared.profile.Profile.{Profile}
use Rattle.dmn_rows.specs.declared.row.MnRow.{MnRow}
use Rattle.dmn_rows.specs.declared.rule.Rule.{Rule}
use Rattle.dmn_rows.specs.declared.rule.Rule.TheVariants.{TooManyChanges, TooManyMasternodes, TooManyOutputs, CbRoot}
use Rattle.dmn_rows.specs.declared.start.StartRecord.{StartRecord}
use Rattle.dmn_rows.specs.declared.verdict.Verdict.{Verdict}
use Rattle.dmn_rows.specs.Listing.{Listing}
use Rattle.dmn_rows.specs.Profile.{small_profile, main_profile, confirm_wait}
use Rattle.dmn_rows.specs.Rows.{Outputs}
use Rattle.dmn_rows.specs.Start.{most_outputs}
use Rattle.dmn_rules.specs.Defs.{judge_of, effect_of}
use Rattle.dmn_sml.specs.Defs.{root_of, simple}
use Rattle.dmn_standing.specs.Payment.{payee}
use Rattle.dmn_standing.specs.Standing.{confirmed, decreased, paid}
use Rattle.dmn_tx.specs.declared.tx.Tx.{Tx}
use Rattle.dmn_tx.specs.Tx.{is_special}
use Rattle.dmn_branch.specs.declared.limits.TheConstants.{MOST_EVENTS}
use Rattle.dmn_branch.specs.Events.{confirmations, once_there, tx_events, spend_events}
use Rattle.dmn_branch.specs.Quorums.{Committed, Punished, all_formed, commitment_in, commitment_rule, none_committed, punish_by, with_commitment}

-- ---- stages, joined so that the first that refuses decides

abbrev pub and_then : {X Y : Type 0} → Result X Refusal → (X → Result Y Refusal) → Result Y Refusal
and_then (Ok x) next = next x
and_then (Err refusal) next = Err refusal

abbrev pub unless : {X : Type 0} → Option Refusal → X → Result X Refusal
unless None x = Ok x
unless (Some refusal) x = Err refusal

-- ---- what the stages hand on

-- the rows, how many events there were so far, and what the block has of commitments so far
pub record Counted : Type 0 where
  pub rows : List MnRow
  pub events : ℕ
  pub committed : Committed

-- the rows and outputs after a block, how many events it had, and its commitments that aren't null
pub record Outcome : Type 0 where
  pub list : Listing
  pub events : ℕ
  pub mined : List Commitment

-- ---- transactions

-- What the transactions of a block are judged by, besides the rows as they are then: the outputs are those after the
-- block before, and the quorums those of the block's height.
pub record Setting : Type 0 where
  pub profile : Profile
  pub height : ℕ
  pub outputs : Outputs
  pub verdicts : List Verdict
  pub formed : List Formed

-- the verdict that names the transaction at a place
abbrev pub verdict_on : ℕ → List Verdict → Option Verdict
verdict_on place = find (λ v. v.tx == place)

-- what follows where this rule is broken, or none
abbrev pub judged : ℕ → Option Rule → Counted → Result Counted Refusal
judged place None next = Ok next
judged place (Some rule) next = Err (by_tx place rule)

-- The first rule that a special transaction breaks: one on its payload or, for a provider's, on what that says; and then one
-- on its commitment.
abbrev pub rule_of : Setting → Counted → Tx → Option Verdict → Option Rule
rule_of s now tx verdict =
    option_or (judge_of s.profile now.rows s.outputs s.height tx verdict) (commitment_rule s.formed now.committed s.height verdict (commitment_in tx))

-- what a provider's transaction changes that is accepted; another changes nothing here
abbrev pub provided_by : Setting → Tx → Counted → Punished
provided_by s tx now = record { rows = effect_of now.rows s.outputs tx s.height; events = now.events + tx_events now.rows s.outputs tx s.height }

-- what a commitment that is accepted changes, where there is one
abbrev pub committed_by : Setting → Option (ℕ × Commitment) → Committed → Punished → Counted
committed_by s None committed now = record { rows = now.rows; events = now.events; committed = committed }
committed_by s (Some (told, v)) committed now =
    let after = punish_by s.formed s.height v now in
    record { rows = after.rows; events = after.events; committed = with_commitment v committed }

-- what is there after a transaction that is accepted
abbrev pub changed_by : Setting → Tx → Counted → Counted
changed_by s tx now = committed_by s (commitment_in tx) now.committed (provided_by s tx now)

-- what is there after the transaction at a place, which only a special one changes
unfoldable pub transaction : Setting → ℕ → Tx → Counted → Result Counted Refusal
transaction s place tx now =
    if is_special tx.version tx.kind
    then judged place (rule_of s now tx (verdict_on place s.verdicts)) (changed_by s tx now)
    else Ok now

-- what is there after these transactions, the first of which stands at this place; each finds what the ones before left
abbrev pub transactions : Setting → ℕ → List Tx → Counted → Result Counted Refusal
transactions s place [] now = Ok now
transactions s place (tx ∷ txs) now = and_then (transaction s place tx now) (transactions s (place + 1) txs)

-- ---- payment

-- the rows, where the one of the hash was paid at this height
abbrev pub marked : ℕ → Option Hash256 → List MnRow → List MnRow
marked height None rows = rows
marked height (Some hash) rows = paid height hash rows

-- ---- the last rules, by the rows and outputs after the block, and by its events

-- as many events as a block may have
abbrev pub most_events : ℕ
most_events = MOST_EVENTS

-- as many masternodes as there may be
abbrev pub most_rows : ℕ
most_rows = MOST_MASTERNODES

-- the payload of the first transaction, where that is a coinbase's
abbrev pub coinbase_in : List Tx → Option CbTx
coinbase_in [] = None
coinbase_in (first ∷ txs) = result_ok (whole cb first.payload)

-- the coinbase commits to another root than that of the simplified list
abbrev pub other_root : Option CbTx → Hash256 → Option Refusal
other_root None root = None
other_root (Some value) root = when (not (bytes_eq value.rows.0 root.0)) (by_block (CbRoot value.rows root))

unfoldable pub last_rules : Option CbTx → Outcome → Numbered
last_rules coinbase after =
    (81, when (nat_lt most_events after.events) (by_block TooManyChanges))
    ∷ (82, when (nat_lt most_rows (length after.list.rows)) (by_block TooManyMasternodes))
    ∷ (83, when (nat_lt most_outputs (length after.list.outputs)) (by_block TooManyOutputs))
    ∷ (84, other_root coinbase (root_of (simple after.list.rows)))
    ∷ []

-- ---- one block more

abbrev pub setting_of : Profile → List Formed → State → BlockFrame → Setting
setting_of profile formed tip block = record { profile = profile; height = tip.height + 1; outputs = tip.outputs; verdicts = block.verdicts; formed = formed }

abbrev pub state_of : State → BlockFrame → Outcome → State
state_of tip block after = record {
  height = tip.height + 1;
  hash = block.hash;
  block = Some block;
  rows = after.list.rows;
  outputs = after.list.outputs;
  mined = tip.mined ++ mined_at (tip.height + 1) after.mined;
}

-- 1: the rules on the block as a whole
unfoldable pub shaped : State → BlockFrame → Result (List MnRow) Refusal
shaped tip block = unless (broken_rule block tip.hash tip.height) tip.rows

-- 2: the rows that are due are confirmed by the hash of the block before. 3: penalties fall.
unfoldable pub stood : State → List MnRow → Counted
stood tip rows = record {
  rows = decreased (confirmed confirm_wait (tip.height + 1) tip.hash rows);
  events = confirmations confirm_wait (tip.height + 1) rows;
  committed = none_committed;
}

-- 4: the transactions behind the coinbase
unfoldable pub transacted : Profile → List Formed → State → BlockFrame → Counted → Result Counted Refusal
transacted profile formed tip block = transactions (setting_of profile formed tip block) 1 (drop 1 block.txs)

-- 5: the duty to mine commitments, for the types in their order
unfoldable pub dutiful : List Formed → Counted → Result Counted Refusal
dutiful formed now = unless (option_map by_block (missing formed now.committed.kinds)) now

-- 6: inputs and outputs, the coinbase's too
unfoldable pub spent : State → BlockFrame → Counted → Outcome
spent tip block now =
    let list : Listing = record { rows = now.rows; outputs = tip.outputs } in
    record { list = spend block.txs list; events = now.events + spend_events block.txs list; mined = now.committed.mined }

-- 7: the masternode whose turn it was by the rows of the block before is marked as paid, where its row is still there
unfoldable pub after_payment : State → Outcome → Outcome
after_payment tip now = record {
  list = record now.list { rows = marked (tip.height + 1) (payee tip.rows) now.list.rows };
  events = now.events + once_there (payee tip.rows) now.list.rows;
  mined = now.mined;
}

-- what is there after the block, where no rule before the last ones refuses it
unfoldable pub outcome : Profile → List Formed → State → BlockFrame → Result Outcome Refusal
outcome profile formed tip block =
    and_then (shaped tip block)
    (λ rows. and_then (transacted profile formed tip block (stood tip rows))
    (λ now. and_then (dutiful formed now) (λ now. Ok (after_payment tip (spent tip block now)))))

-- 8: the last rules
unfoldable pub closed : State → BlockFrame → Outcome → Result State Refusal
closed tip block after = unless (first_of (last_rules (coinbase_in block.txs) after)) (state_of tip block after)

-- The state after a block on this one, or the first rule that the block breaks, with the transaction that it names. The
-- quorums are those of the block's height.
unfoldable pub step_from : Profile → List Formed → State → BlockFrame → Result State Refusal
step_from profile formed tip block = and_then (outcome profile formed tip block) (closed tip block)

abbrev pub events_in : Result Outcome Refusal → ℕ
events_in (Ok after) = after.events
events_in (Err refusal) = 0

-- how many events a block on this state has, where no rule before the last ones refuses it
abbrev pub events_from : Profile → List Formed → State → BlockFrame → ℕ
events_from profile formed tip block = events_in (outcome profile formed tip block)

-- the profile of a start record, by its number
abbrev pub profile_of : StartRecord → Profile
profile_of start = if start.profile == 1 then small_profile else main_profile

-- the last of some states
abbrev pub last_of : State → List State → State
last_of state [] = state
last_of state (next ∷ states) = last_of next states

-- the state at the tip of a history, which is the states from the height before the first block on
abbrev pub tip_of : StartRecord → List State → State
tip_of start history = last_of (origin start) history

-- the quorum of each type, for a block that follows this history
abbrev pub formed_on : StartRecord → List State → List Formed
formed_on start history = all_formed (profile_of start) start.first history (tip_of start history).mined ((tip_of start history).height + 1)

-- One block more on a history. Of the states before the last, those of base blocks are asked for.
abbrev pub step : StartRecord → List State → BlockFrame → Result State Refusal
step start history block = step_from (profile_of start) (formed_on start history) (tip_of start history) block
