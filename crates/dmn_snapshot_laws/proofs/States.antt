-- What a snapshot is to tell of each state is in its form.
use Rattle.std.proofs.Common.{◌≡◌, ℕ, suc, ◌+◌, ◌<◌, ◌≤◌, ◌==◌, Bool, true, false, cond, List, [], ◌∷◌, ◌++◌, length, drop, Option, None, Some, refl, ap, subst, arith}
use Rattle.std.specs.Prelude.{Result, Ok, Err, MatchBool, not}
use Rattle.std.specs.List.{All, AllByRecursion}
use Rattle.std.specs.Option.{option_map}
use Rattle.std.specs.Result.{result_ok}
use Rattle.std.proofs.lemmas.List.Elements.{All-filter}
use Rattle.dmn_block.specs.declared.frame.BlockFrame.{BlockFrame}
use Rattle.dmn_block.specs.Shape.{broken_rule, by_block, first_of}
use Rattle.dmn_block.specs.Spend.{add_output, add_outputs, collateral_value, spend, spend_inputs, spend_point, spend_tx}
use Rattle.dmn_block.specs.State.{State, origin}
use Rattle.dmn_branch.specs.Machine.{MachineState, branch, history}
use Rattle.dmn_branch.specs.Quorums.{Committed, Punished, commitment_in, punish_absent, punish_by, punish_unless, with_commitment}
use Rattle.dmn_branch.specs.Step.{Counted, Outcome, Setting, after_payment, changed_by, closed, coinbase_in, committed_by, dutiful, judged, last_rules, marked, outcome, profile_of, provided_by, rule_of, setting_of, shaped, spent, state_of, step_from, stood, transacted, transaction, transactions, verdict_on}
use Rattle.dmn_branch.proofs.Judging.{all_put}
use Rattle.dmn_branch.proofs.Spending.{spend_all}
use Rattle.dmn_bytes.specs.declared.fault.Departure.{Departure}
use Rattle.dmn_bytes.specs.declared.hash.Hash256.{Hash256}
use Rattle.dmn_bytes.specs.declared.points.OutPoint.{OutPoint}
use Rattle.dmn_bytes.specs.declared.points.Pay.{Pay}
use Rattle.dmn_bytes.specs.Format.{whole}
use Rattle.dmn_bytes.specs.Law.{IsBytes}
use Rattle.dmn_bytes.specs.Sound.{whole_takes}
use Rattle.dmn_branch.specs.Coinbases.{part_of}
use Rattle.dmn_payloads.specs.declared.commitment.Commitment.{Commitment}
use Rattle.dmn_payloads.specs.declared.mined.MinedAt.{MinedAt}
use Rattle.dmn_payloads.specs.declared.payloads.ProReg.{ProReg}
use Rattle.dmn_payloads.specs.Scripts.{pay_of}
use Rattle.dmn_payloads.specs.Commitments.{is_null, mined as mined_payload, mined_sound}
use Rattle.dmn_payloads.specs.Payloads.{version_one}
use Rattle.dmn_quorums.specs.Bitset.{bit_at}
use Rattle.dmn_quorums.specs.Duty.{mined_at}
use Rattle.dmn_quorums.specs.Forming.{Formed, members_in, missing}
use Rattle.dmn_restore.specs.Formed.{HasFormedPay, HasFormedPays}
use Rattle.dmn_rows.specs.declared.profile.Profile.{Profile}
use Rattle.dmn_rows.specs.declared.row.MnRow.{MnRow}
use Rattle.dmn_rows.specs.declared.rule.Rule.{Rule}
use Rattle.dmn_rows.specs.declared.start.StartRecord.{StartRecord}
use Rattle.dmn_rows.specs.Defs.{IsStart}
use Rattle.dmn_rows.specs.Listing.{Listing}
use Rattle.dmn_rows.specs.Profile.{confirm_wait}
use Rattle.dmn_rows.specs.Rows.{Outputs, has_collateral, has_hash, has_point, put_output}
use Rattle.dmn_rules.specs.declared.provider.Provider.{Provider}
use Rattle.dmn_rules.specs.declared.provider.Provider.TheVariants.{Register, Service, Registrar, Revoke}
use Rattle.dmn_rules.specs.Change.{added, list_after, registered, rekeyed, revoked, served}
use Rattle.dmn_rules.specs.Defs.{effect_by, effect_of, effect_read_of}
use Rattle.dmn_rules.specs.Payload.{provider_of}
use Rattle.dmn_rules.specs.Provider.{point_of, script_of}
use Rattle.dmn_standing.specs.Payment.{payee}
use Rattle.dmn_standing.specs.Standing.{confirm, confirmed, decrease, punished}
use Rattle.dmn_tx.specs.declared.kinds.TheConstants.{COMMITMENT_TX, LONGEST_PAYLOAD}
use Rattle.dmn_tx.specs.declared.tx.Tx.{Tx}
use Rattle.dmn_tx.specs.declared.tx.TxIn.{TxIn}
use Rattle.dmn_tx.specs.declared.tx.TxOut.{TxOut}
use Rattle.dmn_tx.specs.Defs.{id_of}
use Rattle.dmn_tx.specs.Tx.{KeepsPayload, is_special, tx}
use Rattle.dmn_snapshot_laws.specs.Formed.{IsFormed, IsFormedCommitment, IsFormedPart, IsRead}
use Rattle.dmn_snapshot_laws.proofs.Replays.{ok_of, ok_same, replay_keeps, then_ok, unless_ok, unless_same}
use Rattle.dmn_snapshot_laws.proofs.Pays.{IfPay, confirm_pays, decrease_pays, keeps_changed, keeps_map, keeps_output, paid_pays, punished_pays, registered_pays, rekeyed_pays, revoked_pays, script_paid, served_pays, none_all, start_paid}

-- ---- confirmation, penalties and payment

pays_stood : (tip : State) → All HasFormedPays tip.rows → All HasFormedPays (stood tip tip.rows).rows
unfolding stood
pays_stood tip k =
    keeps_map decrease decrease_pays (confirmed confirm_wait (tip.height + 1) tip.hash tip.rows)
    (keeps_map (confirm confirm_wait (tip.height + 1) tip.hash) (confirm_pays confirm_wait (tip.height + 1) tip.hash) tip.rows k)

pays_marked : (height : ℕ) (who : Option Hash256) (rows : List MnRow) → All HasFormedPays rows → All HasFormedPays (marked height who rows)
pays_marked height None rows k = k
pays_marked height (Some hash) rows k = keeps_changed (λ row. record row { last_paid = height }) (paid_pays height) (has_hash hash) rows k

pays_unless : (valid : Bool) (height : ℕ) (hash : Hash256) (now : Punished) → All HasFormedPays now.rows → All HasFormedPays (punish_unless valid height hash now).rows
pays_unless true height hash now k = k
pays_unless false height hash now k = keeps_changed (punished height (length now.rows)) (punished_pays height (length now.rows)) (has_hash hash) now.rows k

pays_absent : (height : ℕ) (bits : List ℕ) (place : ℕ) (members : List Hash256) (now : Punished) → All HasFormedPays now.rows → All HasFormedPays (punish_absent height bits place members now).rows
pays_absent height bits place [] now k = k
pays_absent height bits place (hash ∷ members) now k =
    pays_absent height bits (place + 1) members (punish_unless (bit_at bits place) height hash now) (pays_unless (bit_at bits place) height hash now k)

pays_punished : (formed : List Formed) (height : ℕ) (v : Commitment) (now : Punished) → All HasFormedPays now.rows → All HasFormedPays (punish_by formed height v now).rows
pays_punished formed height v now k = go (is_null v)
  where
    go : (b : Bool) → All HasFormedPays (cond b now (punish_absent height v.valid.bytes 0 (members_in formed v.kind) now)).rows
    go true = k
    go false = pays_absent height v.valid.bytes 0 (members_in formed v.kind) now k

-- ---- provider transactions

pays_added : (height : ℕ) (id : Hash256) (p : ProReg) (script : Option Pay) (rows : List MnRow) → IfPay script → All HasFormedPays rows → All HasFormedPays (added height id p script rows)
pays_added height id p None rows fits k = k
pays_added height id p (Some script) rows fits k =
    all_put HasFormedPays (registered height id p script) _ (registered_pays height id p script fits) (All-filter (λ r. not (has_collateral (point_of id p) r)) HasFormedPays rows k)

pays_after : (height : ℕ) (id : Hash256) (outs : List TxOut) (outputs : Outputs) (rows : List MnRow) (read : Provider) → All HasFormedPay outputs → All HasFormedPays rows → All HasFormedPays (list_after height id outs outputs rows read)
pays_after height id outs outputs rows (Register p) paid k = pays_added height id p (script_of outs outputs p) rows (script_paid outs outputs p paid) k
pays_after height id outs outputs rows (Service up) paid k = keeps_changed (served height up) (served_pays height up) (has_hash up.pro_tx) rows k
pays_after height id outs outputs rows (Registrar up) paid k = keeps_changed (rekeyed height up) (rekeyed_pays height up) (has_hash up.pro_tx) rows k
pays_after height id outs outputs rows (Revoke p) paid k = keeps_changed (revoked height p) (revoked_pays height p) (has_hash p.pro_tx) rows k

pays_effect : (rows : List MnRow) (outputs : Outputs) (t : Tx) (height : ℕ) → All HasFormedPay outputs → All HasFormedPays rows → All HasFormedPays (effect_of rows outputs t height)
unfolding effect_of effect_read_of
pays_effect rows outputs t height paid k = go (provider_of t.kind t.payload)
  where
    go : (o : Option Provider) → All HasFormedPays (effect_by rows outputs t height o)
    go None = k
    go (Some read) = pays_after height (id_of t) t.outputs outputs rows read paid k

-- ---- commitments

abbrev AreCommitments : List Commitment → Type 0
AreCommitments = AllByRecursion IsFormedCommitment

one_more : (xs : List Commitment) (v : Commitment) → AreCommitments xs → IsFormedCommitment v → AreCommitments (xs ++ v ∷ [])
one_more [] v all one = (one, tt)
one_more (x ∷ xs) v all one = (all.0, one_more xs v all.1 one)

with_one : (v : Commitment) (now : Committed) → IsFormedCommitment v → AreCommitments now.mined → AreCommitments (with_commitment v now).mined
with_one v now fits all = elim (is_null v) as (λ (b : Bool). AreCommitments (cond b now.mined (now.mined ++ v ∷ []))) [ true ↦ all | false ↦ one_more now.mined v all fits ]

abbrev IfCommitment : Option (ℕ × Commitment) → Type 0
IfCommitment None = Unit {0}
IfCommitment (Some (told, v)) = IsFormedCommitment v

-- a payload of bytes that a transaction may have
abbrev IsPayload : Tx → Type 0
IsPayload t = IsBytes t.payload × (length t.payload ≤ LONGEST_PAYLOAD)

payload_fits : (v : ℕ × Commitment) (payload : List ℕ) → mined_payload.Fits v → payload ≡ mined_payload.text v → length payload ≤ LONGEST_PAYLOAD → IsFormedCommitment v.1
unfolding mined_payload version_one
payload_fits v payload fits is few = (fits.1.1, omega (arith, few, ap length is))

read_fits : (payload : List ℕ) → IsBytes payload → length payload ≤ LONGEST_PAYLOAD → (r : Result (ℕ × Commitment) Departure) → whole mined_payload payload ≡ r → IfCommitment (result_ok r)
read_fits payload bytes few (Ok v) is = let w = whole_takes mined_payload mined_sound payload v bytes is in payload_fits v payload w.0 w.1 few
read_fits payload bytes few (Err d) is = tt

commitment_fits : (t : Tx) → IsPayload t → IfCommitment (commitment_in t)
commitment_fits t p = elim (t.kind == COMMITMENT_TX) as (λ (b : Bool). IfCommitment (cond b (result_ok (whole mined_payload t.payload)) None)) [ true ↦ read_fits t.payload p.0 p.1 (whole mined_payload t.payload) refl | false ↦ tt ]

kept_short : (t : Tx) → KeepsPayload t → length t.payload ≤ LONGEST_PAYLOAD
kept_short t keeps = go (is_special t.version t.kind) keeps
  where
    go : (b : Bool) → MatchBool b (length t.payload ≤ LONGEST_PAYLOAD) (t.payload ≡ []) → length t.payload ≤ LONGEST_PAYLOAD
    go true few = few
    go false none = omega (arith, ap length none)

both_payloads : (txs : List Tx) → AllByRecursion (λ (t : Tx). IsBytes t.payload) txs → All KeepsPayload txs → AllByRecursion IsPayload txs
both_payloads [] bytes keeps = tt
both_payloads (t ∷ txs) bytes keeps = ((bytes.0, kept_short t (keeps 0 t (omega arith))), both_payloads txs bytes.1 (λ i d below. keeps (suc i) d (omega (arith, below))))

-- ---- transactions

record IsGood (now : Counted) : Type 0 where
  rows : All HasFormedPays now.rows
  mined : AreCommitments now.committed.mined

good_committed : (s : Setting) (o : Option (ℕ × Commitment)) (committed : Committed) (now : Punished) → IfCommitment o → AreCommitments committed.mined → All HasFormedPays now.rows → IsGood (committed_by s o committed now)
good_committed s None committed now fits all k = record { rows = k; mined = all }
good_committed s (Some (told, v)) committed now fits all k = record { rows = pays_punished s.formed s.height v now k; mined = with_one v committed fits all }

good_change : (s : Setting) (t : Tx) (now : Counted) → All HasFormedPay s.outputs → IsPayload t → IsGood now → IsGood (changed_by s t now)
good_change s t now paid bytes k = good_committed s (commitment_in t) now.committed (provided_by s t now) (commitment_fits t bytes) k.mined (pays_effect now.rows s.outputs t s.height paid k.rows)

good_transaction : (s : Setting) (place : ℕ) (t : Tx) (now next : Counted) → All HasFormedPay s.outputs → IsPayload t → IsGood now → transaction s place t now ≡ Ok next → IsGood next
unfolding transaction
good_transaction s place t now next paid bytes k is = go (is_special t.version t.kind) (rule_of s now t (verdict_on place s.verdicts)) is
  where
    go : (b : Bool) (o : Option Rule) → cond b (judged place o (changed_by s t now)) (Ok now) ≡ Ok next → IsGood next
    go true None e = let same : changed_by s t now ≡ next = cc in subst IsGood same (good_change s t now paid bytes k)
    go true (Some rule) e = absurd cc
    go false o e = let same : now ≡ next = cc in subst IsGood same k

good_transactions : (s : Setting) (place : ℕ) (txs : List Tx) (now after : Counted) → All HasFormedPay s.outputs → AllByRecursion IsPayload txs → IsGood now → transactions s place txs now ≡ Ok after → IsGood after
good_transactions s place [] now after paid bytes k is = let same : now ≡ after = cc in subst IsGood same k
good_transactions s place (t ∷ txs) now after paid bytes k is =
    let first = then_ok (transaction s place t now) (transactions s (place + 1) txs) after is in
    good_transactions s (place + 1) txs first.0 after paid bytes.1 (good_transaction s place t now first.0 paid bytes.0 k first.1) first.2

-- ---- inputs and outputs

spent_inputs : (inputs : List TxIn) (list : Listing) → All HasFormedPay list.outputs → All HasFormedPay (spend_inputs inputs list).outputs
spent_inputs [] list all = all
spent_inputs (input ∷ inputs) list all = spent_inputs inputs (spend_point input.point list) (All-filter (λ output. not (has_point input.point output)) HasFormedPay list.outputs all)

added_output : (point : OutPoint) (output : TxOut) (list : Listing) → All HasFormedPay list.outputs → All HasFormedPay (add_output point output list).outputs
added_output point output list all = go (output.value == collateral_value)
  where
    go : (b : Bool) → All HasFormedPay (cond b (record list { outputs = put_output point (pay_of output.script) list.outputs }) list).outputs
    go true = keeps_output point output.script list.outputs all
    go false = all

added_outputs : (id : Hash256) (index : ℕ) (outputs : List TxOut) (list : Listing) → All HasFormedPay list.outputs → All HasFormedPay (add_outputs id index outputs list).outputs
added_outputs id index [] list all = all
added_outputs id index (output ∷ outputs) list all =
    added_outputs id (index + 1) outputs (add_output (record { hash = id; index = index }) output list) (added_output (record { hash = id; index = index }) output list all)

spent_outputs : (txs : List Tx) (list : Listing) → All HasFormedPay list.outputs → All HasFormedPay (spend txs list).outputs
spent_outputs [] list all = all
spent_outputs (t ∷ txs) list all = spent_outputs txs (spend_tx t list) (added_outputs (id_of t) 0 t.outputs (spend_inputs t.inputs list) (spent_inputs t.inputs list all))

-- ---- the stages of a block

behind_first : (txs : List Tx) → AllByRecursion IsPayload txs → AllByRecursion IsPayload (drop 1 txs)
behind_first [] bytes = tt
behind_first (t ∷ txs) bytes = bytes.1

record IsEnd (after : Outcome) : Type 0 where
  rows : All HasFormedPays after.list.rows
  outputs : All HasFormedPay after.list.outputs
  mined : AreCommitments after.mined

ended : (tip : State) (block : BlockFrame) (now : Counted) → All HasFormedPay tip.outputs → IsGood now → IsEnd (after_payment tip (spent tip block now))
unfolding after_payment spent
ended tip block now paid k =
    let list : Listing = record { rows = now.rows; outputs = tip.outputs } in
    record {
      rows = pays_marked (tip.height + 1) (payee tip.rows) (spend block.txs list).rows (spend_all HasFormedPays block.txs list k.rows);
      outputs = spent_outputs block.txs list paid;
      mined = k.mined;
    }

stood_good : (tip : State) → All HasFormedPays tip.rows → IsGood (stood tip tip.rows)
unfolding stood
stood_good tip k = record { rows = pays_stood tip k; mined = tt }

outcome_good : (profile : Profile) (formed : List Formed) (tip : State) (block : BlockFrame) (after : Outcome) → AllByRecursion IsPayload block.txs → All HasFormedPays tip.rows → All HasFormedPay tip.outputs → outcome profile formed tip block ≡ Ok after → IsEnd after
unfolding outcome shaped transacted dutiful
outcome_good profile formed tip block after bytes k paid is =
    let a = unless_ok (broken_rule block tip.hash tip.height) tip.rows _ after is in
    let b = then_ok (transactions (setting_of profile formed tip block) 1 (drop 1 block.txs) (stood tip tip.rows)) _ after a in
    let c = unless_ok (option_map by_block (missing formed b.0.committed.kinds)) b.0 (λ (now : Counted). ok_of (after_payment tip (spent tip block now))) after b.2 in
    let judged_all = good_transactions (setting_of profile formed tip block) 1 (drop 1 block.txs) (stood tip tip.rows) b.0 paid (behind_first block.txs bytes) (stood_good tip k) b.1 in
    subst IsEnd (ok_same c) (ended tip block b.0 paid judged_all)

-- ---- one state after another

some_text : (t : Tx) → 0 < length (tx.text t)
unfolding tx
some_text t = omega arith

first_formed : (txs : List Tx) → All KeepsPayload txs → IsFormedPart (part_of txs)
first_formed [] all = tt
first_formed (t ∷ txs) all = (all 0 t (omega arith), some_text t)

mined_more : (height : ℕ) (old : List MinedAt) (new : List Commitment) → AllByRecursion (λ (m : MinedAt). IsFormedCommitment m.commitment) old → AreCommitments new → AllByRecursion (λ (m : MinedAt). IsFormedCommitment m.commitment) (old ++ mined_at height new)
mined_more height [] [] all more = tt
mined_more height [] (v ∷ new) all more = (more.0, mined_more height [] new tt more.1)
mined_more height (m ∷ old) new all more = (all.0, mined_more height old new all.1 more)

origin_formed : (start : StartRecord) → All HasFormedPay start.outputs → IsFormed (origin start)
origin_formed start outputs = record { coinbase = tt; commitments = tt; rows = none_all HasFormedPays; outputs = outputs }

next_formed : (profile : Profile) (formed : List Formed) (tip : State) (block : BlockFrame) (next : State) → IsRead block → IsFormed tip → step_from profile formed tip block ≡ Ok next → IsFormed next
unfolding step_from closed
next_formed profile formed tip block next read good is =
    let a = then_ok (outcome profile formed tip block) _ next is in
    let end = outcome_good profile formed tip block a.0 (both_payloads block.txs read.bytes read.is.payloads) good.rows good.outputs a.1 in
    let same : state_of tip block a.0 ≡ next = unless_same (first_of (last_rules (coinbase_in block.txs) a.0)) (state_of tip block a.0) next a.2 in
    subst IsFormed same (record {
      coinbase = first_formed block.txs read.is.payloads;
      commitments = mined_more (tip.height + 1) tip.mined a.0.mined good.commitments end.mined;
      rows = end.rows;
      outputs = end.outputs;
    })

pub states_formed : (m : MachineState) → IsStart m.start → AllByRecursion IsRead (branch m) → AllByRecursion IsFormed (history m)
unfolding history
states_formed m fits reads =
    let first = origin_formed m.start (start_paid m.start fits) in
    replay_keeps IsFormed IsRead m.start first (next_formed (profile_of m.start)) (origin m.start ∷ []) (branch m) reads (first, tt)
