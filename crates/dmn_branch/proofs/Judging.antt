-- One transaction: what judges of it say, and what it does to rows.
use Rattle.std.proofs.Common.{◌≡◌, ℕ, suc, ◌+◌, ◌<◌, ◌≤◌, Bool, true, false, not, cond, List, ◌∷◌, length, get_or, drop, filter, Option, None, Some, Result, Ok, Err, refl, sym, ap, ◌∙◌, add-one, arith}
use Rattle.std.specs.Prelude.{◌==◌, OnOk}
use Rattle.std.specs.List.{All}
use Rattle.std.specs.Option.{option_or}
use Rattle.std.specs.Ordering.{is_lt}
use Rattle.std.proofs.Math.Seq.{drop-cons}
use Rattle.std.proofs.lemmas.Bool.{eq-eqb, ne_eqb}
use Rattle.std.proofs.lemmas.List.Elements.{All-append, All-cons, All-filter}
use Rattle.dmn_block.specs.declared.frame.BlockFrame.{BlockFrame}
use Rattle.dmn_block.specs.declared.refusal.Refusal.{Refusal}
use Rattle.dmn_block.specs.Shape.{by_tx}
use Rattle.dmn_bytes.specs.Format.{whole}
use Rattle.dmn_bytes.specs.Points.{hash_cmp}
use Rattle.dmn_bytes.specs.Sound.{whole_again}
use Rattle.dmn_payloads.specs.declared.commitment.Commitment.{Commitment}
use Rattle.dmn_payloads.specs.Commitments.{mined, mined_sound}
use Rattle.dmn_quorums.specs.Forming.{case_of}
use Rattle.dmn_quorums.specs.Rules as quorums
use Rattle.dmn_rows.specs.declared.row.MnRow.{MnRow}
use Rattle.dmn_rows.specs.declared.rule.Rule.{Rule}
use Rattle.dmn_rows.specs.declared.verdict.Verdict.{Verdict}
use Rattle.dmn_rows.specs.Distinct.{HasDistinctKeys}
use Rattle.dmn_rows.specs.Listing.{IsAscending}
use Rattle.dmn_rows.specs.Rows.{Outputs, plain_rows, put_row}
use Rattle.dmn_rows.proofs.Keys.{IsAscending-filter, IsAscending-put_row}
use Rattle.dmn_rules.specs.declared.effect.Effect.{Effect}
use Rattle.dmn_rules.specs.declared.effect.Effect.TheVariants.{Register, Update}
use Rattle.dmn_rules.specs.declared.fault.JudgeFault.{JudgeFault}
use Rattle.dmn_rules.specs.declared.fault.JudgeFault.TheVariants as faults
use Rattle.dmn_rules.specs.Change.{applied, row_of}
use Rattle.dmn_rules.specs.Defs.{Judges, judge_of, effect_of}
use Rattle.dmn_rules.specs.Provider.{is_hash}
use Rattle.dmn_tx.specs.declared.kinds.TheConstants.{COMMITMENT_TX}
use Rattle.dmn_tx.specs.declared.tx.Tx.{Tx}
use Rattle.dmn_tx.specs.Tx.{is_special}
use Rattle.dmn_indexes.specs.Working.{Worked}
use Rattle.dmn_branch.specs.Events.{tx_events}
use Rattle.dmn_branch.specs.Parts.{Given, IsWorking, IsAfter, setting_with, counted_at, punished_at, rule_on, after_on, from_place}
use Rattle.dmn_branch.specs.Quorums.{Committed, Punished, commitment_in, commitment_rule, punish_by, with_commitment}
use Rattle.dmn_branch.specs.Step.{Setting, Counted, and_then, changed_by, committed_by, judged, provided_by, rule_of, transaction, transactions, verdict_on}
use Rattle.dmn_branch.proofs.Events.{other_events}

-- ---- a transaction that isn't special

pub plain_rule : (s : Setting) (now : Counted) (tx : Tx) (verdict : Option Verdict) → is_special tx.version tx.kind ≡ false → rule_on s now tx verdict ≡ None
unfolding rule_on
plain_rule s now tx verdict is = rw is refl

pub plain_after : (given : Given) (list : Worked) (committed : Committed) (tx : Tx) → is_special tx.version tx.kind ≡ false → IsWorking given.height list.rows → IsAfter given list committed tx list committed
unfolding after_on
plain_after given list committed tx is working = record { counted = rw is refl; outputs = refl; working = working }

-- ---- a special one

special_rule : (s : Setting) (now : Counted) (tx : Tx) (verdict : Option Verdict) → is_special tx.version tx.kind ≡ true → rule_on s now tx verdict ≡ rule_of s now tx verdict
unfolding rule_on
special_rule s now tx verdict is = rw is refl

special_after : (s : Setting) (now : Counted) (tx : Tx) → is_special tx.version tx.kind ≡ true → after_on s now tx ≡ changed_by s tx now
unfolding after_on
special_after s now tx is = rw is refl

-- ---- a provider's, which has no commitment

no_commitment : (tx : Tx) → tx.kind ≤ 4 → commitment_in tx ≡ None
no_commitment tx le =
    let other : (tx.kind == COMMITMENT_TX) ≡ false = ne_eqb tx.kind 6 (λ is. absurd (omega (arith, le, is))) in
    rw other refl

or_none : (o : Option Rule) → option_or o None ≡ o
or_none None = refl
or_none (Some rule) = refl

pub provider_judges : {V : Type 0} (s : Setting) (now : Counted) (tx : Tx) (verdict : Option Verdict) (result : Result V JudgeFault) → is_special tx.version tx.kind ≡ true → tx.kind ≤ 4
    → Judges (judge_of s.profile now.rows s.outputs s.height tx verdict) result → Judges (rule_on s now tx verdict) result
provider_judges s now tx verdict result is le judges =
    let broken = judge_of s.profile now.rows s.outputs s.height tx verdict in
    let same : rule_on s now tx verdict ≡ broken =
    special_rule s now tx verdict is
    ∙ ap (λ (o : Option (ℕ × Commitment)). option_or broken (commitment_rule s.formed now.committed s.height verdict o)) (no_commitment tx le)
    ∙ or_none broken in
    rw same judges

pub provider_after : {V : Type 0} (given : Given) (list : Worked) (committed : Committed) (tx : Tx) (new : Worked) (result : Result V JudgeFault) → is_special tx.version tx.kind ≡ true → tx.kind ≤ 4
    → OnOk result (plain_rows given.height new.rows ≡ effect_of (plain_rows given.height list.rows) list.outputs tx given.height)
    → OnOk result (new.events ≡ list.events + tx_events (plain_rows given.height list.rows) list.outputs tx given.height)
    → OnOk result (new.outputs ≡ list.outputs) → OnOk result (IsWorking given.height new.rows) → OnOk result (IsAfter given list committed tx new committed)
provider_after given list committed tx new (Ok v) is le rows events outputs working =
    let s = setting_with given list.outputs in
    let now = counted_at given.height list committed in
    record {
      counted =
          ap (λ (l : List MnRow). record { rows = l; events = new.events; committed = committed }) rows
          ∙ ap (λ (n : ℕ). record { rows = effect_of (plain_rows given.height list.rows) list.outputs tx given.height; events = n; committed = committed }) events
          ∙ ap (λ (o : Option (ℕ × Commitment)). committed_by s o committed (provided_by s tx now)) (sym (no_commitment tx le))
          ∙ sym (special_after s now tx is);
      outputs = outputs;
      working = working;
    }
provider_after given list committed tx new (Err fault) is le rows events outputs working = tt

-- ---- one with a commitment, or of an unknown type

pub read_is : (tx : Tx) (read : ℕ × Commitment) → tx.kind ≡ COMMITMENT_TX → mined.Fits read → tx.payload ≡ mined.text read → commitment_in tx ≡ Some read
read_is tx read kind fits is =
    let so : (tx.kind == COMMITMENT_TX) ≡ true = eq-eqb tx.kind COMMITMENT_TX kind in
    let it : whole mined tx.payload ≡ Ok read = ap (whole mined) is ∙ whole_again mined mined_sound read fits in
    rw (so, it) refl

pub quorum_unread : (s : Setting) (now : Counted) (tx : Tx) (verdict : Option Verdict) (rule : Rule) → is_special tx.version tx.kind ≡ true
    → judge_of s.profile now.rows s.outputs s.height tx verdict ≡ Some rule → rule_on s now tx verdict ≡ Some rule
quorum_unread s now tx verdict rule is broken =
    special_rule s now tx verdict is ∙ ap (λ (o : Option Rule). option_or o (commitment_rule s.formed now.committed s.height verdict (commitment_in tx))) broken

pub quorum_err : (V : Type 0) (s : Setting) (now : Counted) (tx : Tx) (verdict : Option Verdict) (fault : JudgeFault) → is_special tx.version tx.kind ≡ true
    → Judges {V = ℕ × Commitment} (judge_of s.profile now.rows s.outputs s.height tx verdict) (Err fault) → Judges {V = V} (rule_on s now tx verdict) (Err fault)
quorum_err V s now tx verdict faults.Memory is h = tt
quorum_err V s now tx verdict (faults.Broken rule) is h = quorum_unread s now tx verdict rule is h

pub quorum_rule : (s : Setting) (now : Counted) (tx : Tx) (verdict : Option Verdict) (read : ℕ × Commitment) → is_special tx.version tx.kind ≡ true
    → judge_of s.profile now.rows s.outputs s.height tx verdict ≡ None → commitment_in tx ≡ Some read
    → rule_on s now tx verdict ≡ quorums.judge_of (case_of s.formed now.committed.kinds read.0 read.1.kind) s.height read.1 verdict
quorum_rule s now tx verdict read is none there =
    special_rule s now tx verdict is
    ∙ ap (λ (o : Option Rule). option_or o (commitment_rule s.formed now.committed s.height verdict (commitment_in tx))) none
    ∙ ap (commitment_rule s.formed now.committed s.height verdict) there

pub quorum_after : (given : Given) (list : Worked) (before : Committed) (tx : Tx) (new : Worked) (after : Committed) (read : ℕ × Commitment) → is_special tx.version tx.kind ≡ true → 4 < tx.kind → commitment_in tx ≡ Some read
    → ((rows : List MnRow) (outputs : Outputs) (h : ℕ) → effect_of rows outputs tx h ≡ rows)
    → punished_at given.height new ≡ punish_by given.formed given.height read.1 (punished_at given.height list) → after ≡ with_commitment read.1 before
    → new.outputs ≡ list.outputs → IsWorking given.height new.rows → IsAfter given list before tx new after
quorum_after given list before tx new after read is above there none punished added outputs working =
    let s = setting_with given list.outputs in
    let now = counted_at given.height list before in
    let events : list.events + tx_events (plain_rows given.height list.rows) list.outputs tx given.height ≡ list.events = omega (arith, other_events (plain_rows given.height list.rows) list.outputs tx given.height above) in
    let provided : provided_by s tx now ≡ punished_at given.height list =
    ap (λ (l : List MnRow). record { rows = l; events = list.events + tx_events (plain_rows given.height list.rows) list.outputs tx given.height }) (none (plain_rows given.height list.rows) list.outputs given.height)
    ∙ ap (λ (n : ℕ). record { rows = plain_rows given.height list.rows; events = n }) events in
    record {
      counted =
          ap (λ (p : Punished). record { rows = p.rows; events = p.events; committed = after }) punished
          ∙ ap (λ (c : Committed). let p = punish_by given.formed given.height read.1 (punished_at given.height list) in record { rows = p.rows; events = p.events; committed = c }) added
          ∙ ap (λ (p : Punished). committed_by s (Some read) before p) (sym provided)
          ∙ ap (λ (o : Option (ℕ × Commitment)). committed_by s o before (provided_by s tx now)) (sym there)
          ∙ sym (special_after s now tx is);
      outputs = outputs;
      working = working;
    }

-- ---- what an effect leaves

pub all_put : (P : MnRow → Type 0) (row : MnRow) (rows : List MnRow) → P row → All P rows → All P (put_row row rows)
all_put P row rows new old =
    let before = λ (q : MnRow). is_lt (hash_cmp q.hash row.hash) in
    let behind = λ (q : MnRow). is_lt (hash_cmp row.hash q.hash) in
    All-append P (filter before rows) (row ∷ filter behind rows) (All-filter before P rows old) (All-cons P row (filter behind rows) new (All-filter behind P rows old))

-- what holds of the rows and of the new one holds of the rows after the effect
all_applied : (P : MnRow → Type 0) (effect : Effect) (rows : List MnRow) → P (row_of effect) → All P rows → All P (applied effect rows)
all_applied P (Register row replaced) rows new old = all_put P row _ new (All-filter (λ r. not (is_hash replaced r.hash)) P rows old)
all_applied P (Update row) rows new old = all_put P row rows new old

ascends_applied : (effect : Effect) (rows : List MnRow) → IsAscending rows → IsAscending (applied effect rows)
ascends_applied (Register row replaced) rows ascending = IsAscending-put_row row _ (IsAscending-filter (λ r. not (is_hash replaced r.hash)) rows ascending)
ascends_applied (Update row) rows ascending = IsAscending-put_row row rows ascending

pub working_after : (height : ℕ) (effect : Effect) (rows new : List MnRow) → new ≡ applied effect rows → (row_of effect).penalty_at ≡ height → HasDistinctKeys (applied effect rows) → IsWorking height rows → IsWorking height new
working_after height effect rows new is fresh distinct working = rw is (record {
  keys = distinct;
  ascending = ascends_applied effect rows working.ascending;
  penalties = all_applied (λ row. row.penalty_at ≤ height) effect rows (omega (arith, fresh)) working.penalties;
})

-- ---- the transaction at a place

module _ (given : Given) (block : BlockFrame) (list : Worked) (committed : Committed) (place : ℕ) (tx : Tx) where
  abbrev setting : Setting
  setting = setting_with given list.outputs

  abbrev now : Counted
  now = counted_at given.height list committed

  abbrev rest : Counted → Result Counted Refusal
  rest = transactions setting (place + 1) (drop (place + 1) block.txs)

  -- the transactions from the place on are this one and those behind it
  opened : place < length block.txs → tx ≡ get_or block.txs place tx → from_place given block list committed place ≡ and_then (transaction setting place tx now) rest
  opened lt is = ap (λ (txs : List Tx). transactions setting place txs now) (drop-cons block.txs place tx lt ∙ ap (λ (t : Tx). t ∷ drop (suc place) block.txs) (sym is))
      ∙ ap (λ (n : ℕ). and_then (transaction setting place tx now) (transactions setting (place + 1) (drop n block.txs))) (sym (add-one place))

  accepts : rule_on setting now tx (verdict_on place given.verdicts) ≡ None → transaction setting place tx now ≡ Ok (after_on setting now tx)
  unfolding rule_on after_on transaction
  accepts none = go (is_special tx.version tx.kind) (rule_of setting now tx (verdict_on place given.verdicts)) none
    where
      go : (special : Bool) (o : Option Rule) → cond special o None ≡ None → cond special (judged place o (changed_by setting tx now)) (Ok now) ≡ Ok (cond special (changed_by setting tx now) now)
      go true None e = refl
      go true (Some rule) e = absurd cc
      go false o e = refl

  refuses : (rule : Rule) → rule_on setting now tx (verdict_on place given.verdicts) ≡ Some rule → transaction setting place tx now ≡ Err (by_tx place rule)
  unfolding rule_on transaction
  refuses rule broken = go (is_special tx.version tx.kind) (rule_of setting now tx (verdict_on place given.verdicts)) broken
    where
      go : (special : Bool) (o : Option Rule) → cond special o None ≡ Some rule → cond special (judged place o (changed_by setting tx now)) (Ok now) ≡ Err (by_tx place rule)
      go true None e = absurd cc
      go true (Some other) e = let same : other ≡ rule = cc in ap (λ (r : Rule). Err (by_tx place r)) same
      go false o e = absurd cc

  pub goes_on : (new : Worked) (after : Committed) → place < length block.txs → tx ≡ get_or block.txs place tx → rule_on setting now tx (verdict_on place given.verdicts) ≡ None → IsAfter given list committed tx new after → from_place given block list committed place ≡ from_place given block new after (place + 1)
  goes_on new after lt is none then =
      opened lt is
      ∙ ap (λ r. and_then r rest) (accepts none)
      ∙ ap rest (sym then.counted)
      ∙ ap (λ (outputs : Outputs). transactions (setting_with given outputs) (place + 1) (drop (place + 1) block.txs) (counted_at given.height new after)) (sym then.outputs)

  pub stops_here : (rule : Rule) → place < length block.txs → tx ≡ get_or block.txs place tx → rule_on setting now tx (verdict_on place given.verdicts) ≡ Some rule → from_place given block list committed place ≡ Err (by_tx place rule)
  stops_here rule lt is broken = opened lt is ∙ ap (λ r. and_then r rest) (refuses rule broken)
