-- One block more: the stages of a step, by what is kept of a height.
use Rattle.std.proofs.Common.{◌≡◌, ℕ, ◌+◌, ◌-◌, ◌≤◌, Bool, true, false, not, List, [], ◌∷◌, ◌++◌, length, drop, Option, Some, None, Result, Ok, Err, refl, sym, ap, ◌∙◌, arith, inl, inr}
use Rattle.std.specs.Prelude.{◌==◌, nat_lt}
use Rattle.std.specs.Option.{option_map, option_or}
use Rattle.std.specs.Result.{result_ok}
use Rattle.std.specs.List.{All}
use Rattle.std.specs.Str.{bytes_eq}
use Rattle.std.proofs.lemmas.Bool.{cases_Bool, eqb-true, ltb-false}
use Rattle.std.proofs.lemmas.List.{length-map}
use Rattle.std.proofs.lemmas.Slice.Eq.{bytes_eq-Decides}
use Rattle.dmn_bytes.specs.declared.hash.Hash256.{Hash256}
use Rattle.dmn_bytes.specs.Format.{whole}
use Rattle.dmn_bytes.specs.Points.{is_zero}
use Rattle.dmn_bytes.specs.Sound.{whole_again}
use Rattle.dmn_block.specs.declared.frame.BlockFrame.{BlockFrame}
use Rattle.dmn_block.specs.declared.refusal.Refusal.{Refusal}
use Rattle.dmn_block.specs.Shape.{Numbered, when, unnumbered, first_broken, by_block, by_tx, other_height, payload_rules, link_rules, tx_rules, id_rules, verdict_rules, coinbase_rules, shape_rules, broken_rule, Judges, IsPayloadOfFirst}
use Rattle.dmn_block.specs.declared.fault.ShapeFault.{ShapeFault}
use Rattle.dmn_block.specs.declared.fault.ShapeFault.TheVariants as shapes
use Rattle.dmn_block.specs.Spend.{spend}
use Rattle.dmn_block.specs.State.{State}
use Rattle.dmn_rows.proofs.Table.{first_broken_append}
use Rattle.dmn_payloads.specs.Payloads.{cb, cb_sound}
use Rattle.dmn_payloads.specs.declared.commitment.Commitment.{Commitment}
use Rattle.dmn_payloads.specs.declared.mined.MinedAt.{MinedAt}
use Rattle.dmn_payloads.specs.declared.payloads.CbTx.{CbTx}
use Rattle.dmn_quorums.specs.Duty.{mined_at}
use Rattle.dmn_quorums.specs.Forming.{Formed, missing}
use Rattle.dmn_rows.specs.declared.profile.Profile.{Profile}
use Rattle.dmn_rows.specs.declared.row.MnRow.{MnRow}
use Rattle.dmn_rows.specs.declared.rule.Rule.TheVariants.{ZeroHash, CbHeight, TooManyChanges, TooManyMasternodes, TooManyOutputs, CbRoot}
use Rattle.dmn_rows.specs.Profile.{confirm_wait}
use Rattle.dmn_rows.specs.Listing.{Listing, OutputsAscend}
use Rattle.dmn_rows.specs.Row.{plain}
use Rattle.dmn_rows.specs.Rows.{Outputs, plain_rows}
use Rattle.dmn_rows.specs.Start.{most_outputs}
use Rattle.dmn_sml.specs.Defs.{root_of, simple}
use Rattle.dmn_sml.specs.declared.entry.SmlEntry.{SmlEntry}
use Rattle.dmn_sml.specs.Entry.{entry_of}
use Rattle.dmn_standing.specs.Payment.{payee}
use Rattle.dmn_standing.specs.Standing.{confirmed, decreased}
use Rattle.dmn_standing.proofs.Seen.{confirmed_plain, decreased_plain, paid_plain}
use Rattle.dmn_standing.proofs.Turns.{payee_plain}
use Rattle.dmn_indexes.specs.Version.{few}
use Rattle.dmn_indexes.specs.Working.{Worked, listing}
use Rattle.dmn_tx.specs.declared.tx.Tx.{Tx}
use Rattle.dmn_branch.specs.declared.fault.PrepareFault.{PrepareFault}
use Rattle.dmn_branch.specs.declared.fault.PrepareFault.TheVariants as faults
use Rattle.dmn_branch.specs.Fault.{of_shape, Tells, TellsRule}
use Rattle.dmn_branch.specs.Events.{confirmations, once_there, spend_events}
use Rattle.dmn_branch.specs.Quorums.{Committed, none_committed}
use Rattle.dmn_branch.specs.Parts.{Given, IsWithin, IsWorking, Follows, given_of, counted_at, outcome_of, from_place}
use Rattle.dmn_branch.specs.Stands.{Kept, kept_of, IsWhole, StandsAt}
use Rattle.dmn_branch.specs.Step.{Outcome, transactions, most_events, most_rows, coinbase_in, marked, last_rules, state_of, shaped, stood, transacted, dutiful, spent, after_payment, outcome, closed, step_from, events_in}
use Rattle.dmn_branch.proofs.Confirming.{confirmed_all}
use Rattle.dmn_branch.proofs.Events.{there_seen, confirmations_seen, spend_events_seen}
use Rattle.dmn_branch.proofs.Spending.{seen, spend_seen, spend_keys, spend_ascends, spend_all}

-- ---- what the rules on the block as a whole say of the coinbase

none_behind : (a b : Option Refusal) → option_or a b ≡ None → b ≡ None
none_behind None b e = e
none_behind (Some refusal) b e = absurd cc

pub behind : (xs ys : Numbered) → first_broken (unnumbered (xs ++ ys)) ≡ None → first_broken (unnumbered ys) ≡ None
behind xs ys e = none_behind (first_broken (unnumbered xs)) (first_broken (unnumbered ys)) (sym (first_broken_append xs ys) ∙ e)

pub coinbase_kept : (block : BlockFrame) (tip : Hash256) (height : ℕ) → broken_rule block tip height ≡ None → first_broken (unnumbered (coinbase_rules (height + 1) block.txs)) ≡ None
coinbase_kept block tip height e =
    behind (verdict_rules block) _ (behind (id_rules block) _ (behind (tx_rules block) _ (behind (link_rules block tip height) _ e)))

last_of_three : (a b c : Option Refusal) → first_broken (a ∷ b ∷ c ∷ []) ≡ None → c ≡ None
last_of_three None None None e = refl
last_of_three None None (Some refusal) e = absurd cc
last_of_three None (Some refusal) c e = absurd cc
last_of_three (Some refusal) b c e = absurd cc

same_height : (height : ℕ) (value : CbTx) → other_height height (Ok value) ≡ None → value.height ≡ height
same_height height value e = elim (cases_Bool (value.height == height)) [
  | inl is ↦ eqb-true value.height height is
  | inr differs ↦ let no : Some (by_tx 0 (CbHeight value.height)) ≡ None = sym (ap (λ b. when (not b) (by_tx 0 (CbHeight value.height))) differs) ∙ e in absurd cc
]

payload_kept : (height : ℕ) (tx : Tx) (value : CbTx) → first_broken (unnumbered (payload_rules height tx)) ≡ None → whole cb tx.payload ≡ Ok value → value.height ≡ height
unfolding payload_rules
payload_kept height tx value e is = same_height height value (ap (other_height height) (sym is) ∙ last_of_three _ _ _ e)

-- behind these rules the coinbase's payload is there, and tells the height
pub shape_says : (block : BlockFrame) (tip : Hash256) (height : ℕ) (value : CbTx) → broken_rule block tip height ≡ None → IsPayloadOfFirst block.txs value → (coinbase_in block.txs ≡ Some value) × (value.height ≡ height + 1)
shape_says block tip height value none is = go block.txs (coinbase_kept block tip height none) is
  where
    go : (txs : List Tx) → first_broken (unnumbered (coinbase_rules (height + 1) txs)) ≡ None → IsPayloadOfFirst txs value → (coinbase_in txs ≡ Some value) × (value.height ≡ height + 1)
    go [] e is = absurd is
    go (tx ∷ txs) e is =
        let read : whole cb tx.payload ≡ Ok value = ap (whole cb) is.1 ∙ whole_again cb cb_sound value is.0 in
        (ap result_ok read, payload_kept (height + 1) tx value e read)

-- behind them the block's hash isn't zero
pub hash_kept : (block : BlockFrame) (tip : Hash256) (height : ℕ) → broken_rule block tip height ≡ None → is_zero block.hash.0 ≡ false
unfolding link_rules
hash_kept block tip height none = go (is_zero block.hash.0) none
  where
    go : (b : Bool) → first_broken (when b (by_block ZeroHash) ∷ unnumbered (drop 1 (shape_rules block tip height))) ≡ None → b ≡ false
    go true e = absurd cc
    go false e = refl

-- ---- penalties, one block later

-- no penalty of a later height than the next
pub later : (n m : ℕ) (rows : List MnRow) → n ≤ m → All (λ row. row.penalty_at ≤ n) rows → All (λ row. row.penalty_at ≤ m) rows
later n m rows le all = λ k d lt. omega (arith, le, all k d lt)

-- ---- the last rules

pub simple_seen : (h : ℕ) (rows : List MnRow) → simple (plain_rows h rows) ≡ simple rows
simple_seen h [] = refl
simple_seen h (row ∷ rows) = ap (λ (entries : List SmlEntry). entry_of row ∷ entries) (simple_seen h rows)

-- an outcome with its rows as they are seen at a height
abbrev seen_outcome : ℕ → Worked → List Commitment → Outcome
seen_outcome h list mined = record { list = seen h (listing list); events = list.events; mined = mined }

last_seen : (o : Option CbTx) (h : ℕ) (list : Worked) (mined : List Commitment) → last_rules o (seen_outcome h list mined) ≡ last_rules o (outcome_of list mined)
unfolding last_rules
last_seen o h list mined = rw (length-map list.rows (plain h), simple_seen h list.rows) refl

-- what there is behind the last rules, by the root to which the coinbase commits
pub record IsLawful (value : CbTx) (after : Outcome) : Type 0 where
  pub events : after.events ≤ most_events
  pub rows : length after.list.rows ≤ most_rows
  pub outputs : length after.list.outputs ≤ most_outputs
  pub root : value.rows ≡ root_of (simple after.list.rows)

pub last_says : (value : CbTx) (after : Outcome) → first_broken (unnumbered (last_rules (Some value) after)) ≡ None → IsLawful value after
unfolding last_rules
last_says value after e =
    go (nat_lt most_events after.events) (nat_lt most_rows (length after.list.rows)) (nat_lt most_outputs (length after.list.outputs)) (bytes_eq value.rows.0 root.0) refl refl refl refl e
  where
    root : Hash256
    root = root_of (simple after.list.rows)

    go : (a b c d : Bool) → nat_lt most_events after.events ≡ a → nat_lt most_rows (length after.list.rows) ≡ b → nat_lt most_outputs (length after.list.outputs) ≡ c → bytes_eq value.rows.0 root.0 ≡ d
        → first_broken (when a (by_block TooManyChanges) ∷ when b (by_block TooManyMasternodes) ∷ when c (by_block TooManyOutputs) ∷ when (not d) (by_block (CbRoot value.rows root)) ∷ []) ≡ None → IsLawful value after
    go false false false true events rows outputs same e = record {
      events = ltb-false most_events after.events events;
      rows = ltb-false most_rows (length after.list.rows) rows;
      outputs = ltb-false most_outputs (length after.list.outputs) outputs;
      root = ap (λ (bytes : List ℕ). record { 0 = bytes }) ((bytes_eq-Decides _ _).0 same);
    }
    go true b c d events rows outputs same e = absurd cc
    go false true c d events rows outputs same e = absurd cc
    go false false true d events rows outputs same e = absurd cc
    go false false false false events rows outputs same e = absurd cc

-- ---- the stages

marked_seen : (h height : ℕ) (who : Option Hash256) (rows : List MnRow) → plain_rows h (marked height who rows) ≡ marked height who (plain_rows h rows)
marked_seen h height None rows = refl
marked_seen h height (Some hash) rows = paid_plain h height hash rows

-- the working list once the rows that are due at a height are confirmed
pub record IsBegun (tip : Kept) (h : ℕ) (begun : Worked) : Type 0 where
  pub rows : begun.rows ≡ confirmed confirm_wait h tip.hash tip.rows
  pub events : begun.events ≡ confirmations confirm_wait h tip.rows
  pub outputs : begun.outputs ≡ tip.outputs

pub begun_from : (tip : Kept) (h : ℕ) (hash : Hash256) (old begun : Worked) → listing old ≡ record { rows = tip.rows; outputs = tip.outputs } → old.events ≡ 0 → tip.hash ≡ hash
    → begun.rows ≡ confirmed confirm_wait h hash old.rows → begun.events ≡ old.events + confirmations confirm_wait h old.rows → begun.outputs ≡ old.outputs → IsBegun tip h begun
begun_from tip h hash old begun same none before rows events outputs =
    let here = ap (λ (l : Listing). l.rows) same in
    let counts = ap (confirmations confirm_wait h) here in
    record {
      rows = rows ∙ ap (λ (b : Hash256). confirmed confirm_wait h b old.rows) (sym before) ∙ ap (confirmed confirm_wait h tip.hash) here;
      events = omega (arith, events, none, counts);
      outputs = outputs ∙ ap (λ (l : Listing). l.outputs) same;
    }

-- the working lists behind the transactions, behind the spends and behind the mark
pub record IsEnded (given : Given) (who : Option Hash256) (block : BlockFrame) (begun judged : Worked) (committed : Committed) (spending after : Worked) : Type 0 where
  pub judging : from_place given block begun none_committed 1 ≡ Ok (counted_at given.height judged committed)
  pub duty : missing given.formed committed.kinds ≡ None
  pub same : judged.outputs ≡ begun.outputs
  pub spends : listing spending ≡ spend block.txs (listing judged)
  pub removed : spending.events ≡ judged.events + spend_events block.txs (listing judged)
  pub marks : after.rows ≡ marked given.height who spending.rows
  pub others : after.outputs ≡ spending.outputs
  pub mark : after.events ≡ spending.events + once_there who spending.rows

module _ (profile : Profile) (formed : List Formed) (tip : Kept) (state : State) (block : BlockFrame) (at : StandsAt tip state) (h : ℕ) (next : h ≡ tip.height + 1) where
  broken_is : broken_rule block state.hash state.height ≡ broken_rule block tip.hash tip.height
  broken_is = ap (λ (hash : Hash256). broken_rule block hash state.height) (sym at.hash) ∙ ap (λ (height : ℕ). broken_rule block tip.hash height) (sym at.height)

  height_is : state.height + 1 ≡ h
  height_is = sym (next ∙ ap (λ (n : ℕ). n + 1) at.height)

  -- the first stage refuses
  pub shape_refuses : (refusal : Refusal) → broken_rule block tip.hash tip.height ≡ Some refusal → step_from profile formed state block ≡ Err refusal
  unfolding step_from outcome shaped
  shape_refuses refusal broken = rw (broken_is, broken) refl

  module _ (begun : Worked) (shape : broken_rule block tip.hash tip.height ≡ None) (begins : IsBegun tip h begun) where
    seen_are : plain_rows tip.height tip.rows ≡ state.rows
    seen_are = ap (λ (n : ℕ). plain_rows n tip.rows) at.height ∙ at.rows

    -- rows that were confirmed as they are stored, seen one block later, are the rows that were confirmed, with the penalties decreased
    rows_are : decreased (confirmed confirm_wait h tip.hash state.rows) ≡ plain_rows h begun.rows
    rows_are =
        ap (λ (l : List MnRow). decreased (confirmed confirm_wait h tip.hash l)) (sym seen_are)
        ∙ ap decreased (sym (confirmed_plain tip.height confirm_wait h tip.hash tip.rows))
        ∙ sym (decreased_plain tip.height (confirmed confirm_wait h tip.hash tip.rows) (confirmed_all tip.height confirm_wait h tip.hash tip.rows at.whole.penalties))
        ∙ ap (λ (n : ℕ). plain_rows n (confirmed confirm_wait h tip.hash tip.rows)) (sym next)
        ∙ ap (plain_rows h) (sym begins.rows)

    events_are : confirmations confirm_wait h state.rows ≡ begun.events
    events_are = ap (confirmations confirm_wait h) (sym seen_are) ∙ confirmations_seen tip.height confirm_wait h tip.rows ∙ sym begins.events

    stood_is : stood state state.rows ≡ counted_at h begun none_committed
    unfolding stood
    stood_is =
        ap (λ (n : ℕ). record { rows = decreased (confirmed confirm_wait n state.hash state.rows); events = confirmations confirm_wait n state.rows; committed = none_committed }) height_is
        ∙ ap (λ (hash : Hash256). record { rows = decreased (confirmed confirm_wait h hash state.rows); events = confirmations confirm_wait h state.rows; committed = none_committed }) (sym at.hash)
        ∙ ap (λ (l : List MnRow). record { rows = l; events = confirmations confirm_wait h state.rows; committed = none_committed }) rows_are
        ∙ ap (λ (n : ℕ). record { rows = plain_rows h begun.rows; events = n; committed = none_committed }) events_are

    transacted_is : transacted profile formed state block (stood state state.rows) ≡ from_place (given_of profile formed h block) block begun none_committed 1
    unfolding transacted
    transacted_is =
        ap (λ (n : ℕ). transactions (record { profile = profile; height = n; outputs = state.outputs; verdicts = block.verdicts; formed = formed }) 1 (drop 1 block.txs) (stood state state.rows)) height_is
        ∙ ap (λ (outs : Outputs). transactions (record { profile = profile; height = h; outputs = outs; verdicts = block.verdicts; formed = formed }) 1 (drop 1 block.txs) (stood state state.rows)) (sym (begins.outputs ∙ at.outputs))
        ∙ ap (transactions (record { profile = profile; height = h; outputs = begun.outputs; verdicts = block.verdicts; formed = formed }) 1 (drop 1 block.txs)) stood_is

    -- the transactions refuse
    pub transactions_refuse : (refusal : Refusal) → from_place (given_of profile formed h block) block begun none_committed 1 ≡ Err refusal → step_from profile formed state block ≡ Err refusal
    unfolding step_from outcome shaped
    transactions_refuse refusal broken = rw (broken_is, shape, transacted_is, broken) refl

    -- a commitment is missing
    pub duty_refuses : (judged : Worked) (committed : Committed) (refusal : Refusal) → from_place (given_of profile formed h block) block begun none_committed 1 ≡ Ok (counted_at h judged committed) → option_map by_block (missing formed committed.kinds) ≡ Some refusal → step_from profile formed state block ≡ Err refusal
    unfolding step_from outcome shaped dutiful
    duty_refuses judged committed refusal judging lacks = rw (broken_is, shape, transacted_is, judging) (rw lacks refl)

    module _ (value : CbTx) (judged : Worked) (committed : Committed) (spending after : Worked) (ends : IsEnded (given_of profile formed h block) (payee tip.rows) block begun judged committed spending after) (coinbase : coinbase_in block.txs ≡ Some value) where
      spent_is : spent state block (counted_at h judged committed) ≡ seen_outcome h spending committed.mined
      unfolding spent
      spent_is =
          ap (λ (outs : Outputs). let l : Listing = record { rows = plain_rows h judged.rows; outputs = outs } in record { list = spend block.txs l; events = judged.events + spend_events block.txs l; mined = committed.mined }) (sym at.outputs ∙ sym begins.outputs ∙ sym ends.same)
          ∙ ap (λ (l : Listing). record { list = l; events = judged.events + spend_events block.txs (seen h (listing judged)); mined = committed.mined }) (spend_seen h block.txs (listing judged) ∙ ap (seen h) (sym ends.spends))
          ∙ ap (λ (n : ℕ). record { list = seen h (listing spending); events = n; mined = committed.mined }) (ap (λ (n : ℕ). judged.events + n) (spend_events_seen h block.txs (listing judged)) ∙ sym ends.removed)

      payee_is : payee state.rows ≡ payee tip.rows
      payee_is = ap payee (sym seen_are) ∙ payee_plain tip.height tip.rows

      paid_is : after_payment state (seen_outcome h spending committed.mined) ≡ seen_outcome h after committed.mined
      unfolding after_payment
      paid_is =
          ap (λ (n : ℕ). record { list = record { rows = marked n (payee state.rows) (plain_rows h spending.rows); outputs = spending.outputs }; events = spending.events + once_there (payee state.rows) (plain_rows h spending.rows); mined = committed.mined }) height_is
          ∙ ap (λ (who : Option Hash256). record { list = record { rows = marked h who (plain_rows h spending.rows); outputs = spending.outputs }; events = spending.events + once_there who (plain_rows h spending.rows); mined = committed.mined }) payee_is
          ∙ ap (λ (l : List MnRow). record { list = record { rows = l; outputs = spending.outputs }; events = spending.events + once_there (payee tip.rows) (plain_rows h spending.rows); mined = committed.mined }) (sym (marked_seen h h (payee tip.rows) spending.rows) ∙ ap (plain_rows h) (sym ends.marks))
          ∙ ap (λ (outs : Outputs). record { list = record { rows = plain_rows h after.rows; outputs = outs }; events = spending.events + once_there (payee tip.rows) (plain_rows h spending.rows); mined = committed.mined }) (sym ends.others)
          ∙ ap (λ (n : ℕ). record { list = seen h (listing after); events = n; mined = committed.mined }) (ap (λ (n : ℕ). spending.events + n) (there_seen h (payee tip.rows) spending.rows) ∙ sym ends.mark)

      outcome_is : outcome profile formed state block ≡ Ok (seen_outcome h after committed.mined)
      unfolding outcome shaped dutiful
      outcome_is = rw (broken_is, shape, transacted_is, ends.judging) (rw ends.duty (rw (spent_is, paid_is) refl))

      broken_last : (unnumbered (last_rules (coinbase_in block.txs) (seen_outcome h after committed.mined))) ≡ unnumbered (last_rules (Some value) (outcome_of after committed.mined))
      broken_last = ap (λ (o : Option CbTx). unnumbered (last_rules o (seen_outcome h after committed.mined))) coinbase ∙ ap unnumbered (last_seen (Some value) h after committed.mined)

      -- the last rules refuse
      pub last_refuses : (refusal : Refusal) → first_broken (unnumbered (last_rules (Some value) (outcome_of after committed.mined))) ≡ Some refusal → step_from profile formed state block ≡ Err refusal
      unfolding step_from closed
      last_refuses refusal broken = rw (outcome_is) (rw (broken_last, broken) refl)

      -- nothing refuses
      pub follows : (kept : Kept) (old new : List MinedAt) → kept ≡ kept_of h block.hash value.rows (listing after) → new ≡ old ++ mined_at h committed.mined → first_broken (unnumbered (last_rules (Some value) (outcome_of after committed.mined))) ≡ None → IsWhole kept → Follows profile formed state block after.events kept old new
      unfolding step_from closed
      follows kept old new is adds none whole = record {
        after = state_of state block (seen_outcome h after committed.mined);
        stepped = rw (outcome_is) (rw (broken_last, none) refl);
        counted = sym (ap events_in outcome_is);
        stands = record {
          height = rw is (sym height_is);
          hash = rw is refl;
          root = rw is ((last_says value (outcome_of after committed.mined) none).root ∙ ap root_of (sym (simple_seen h after.rows)));
          rows = rw is (ap (λ (n : ℕ). plain_rows n after.rows) height_is);
          outputs = rw is refl;
          whole = whole;
        };
        added = record { commitments = committed.mined; mined = refl; is = adds ∙ ap (λ (n : ℕ). old ++ mined_at n committed.mined) (sym height_is) };
      }

-- ---- what faults tell

pub tells_shape : {X : Type 0} (broken : Option Refusal) (defined : Result X Refusal) (fault : ShapeFault) → Judges {V = CbTx} broken (Err fault) → ((refusal : Refusal) → broken ≡ Some refusal → defined ≡ Err refusal) → Tells defined (of_shape fault)
tells_shape broken defined (shapes.Broken refusal) h refuses = refuses refusal h
tells_shape broken defined shapes.Memory h refuses = tt

pub tells_more : {X Y : Type 0} (first : Result X Refusal) (defined : Result Y Refusal) (fault : PrepareFault) → Tells first fault → ((refusal : Refusal) → first ≡ Err refusal → defined ≡ Err refusal) → Tells defined fault
tells_more first defined (faults.Refused refusal) h refuses = refuses refusal h
tells_more first defined faults.Memory h refuses = tt

pub tells_rule : {X : Type 0} (broken : Option Refusal) (defined : Result X Refusal) (fault : PrepareFault) → TellsRule broken fault → ((refusal : Refusal) → broken ≡ Some refusal → defined ≡ Err refusal) → Tells defined fault
tells_rule broken defined (faults.Refused refusal) h refuses = refuses refusal h
tells_rule broken defined faults.Memory h refuses = tt

-- ---- few rows, outputs and events

-- as many masternodes and as many outputs as there may be, and as many events as a block may have, are few pairs
pub stays_small : {rows outputs events : ℕ} → rows ≤ most_rows → outputs ≤ most_outputs → events ≤ most_events → (rows + (events - 0) ≤ few) × (outputs + (events - 0) ≤ few)
stays_small masternodes collaterals counted = (omega (arith, masternodes, counted), omega (arith, collaterals, counted))

-- ---- what is kept is whole

pub working_from : (tip : Kept) (h : ℕ) (list : Listing) → IsWhole tip → h ≡ tip.height + 1 → list ≡ record { rows = tip.rows; outputs = tip.outputs } → IsWorking h list.rows
working_from tip h list whole next is = rw is (record { keys = whole.keys; ascending = whole.rows; penalties = later tip.height h tip.rows (omega (arith, next)) whole.penalties })

pub working_spent : (h : ℕ) (txs : List Tx) (judged after : Listing) → after ≡ spend txs judged → IsWorking h judged.rows → IsWorking h after.rows
working_spent h txs judged after spending working = rw spending (record {
  keys = spend_keys txs judged working.keys;
  ascending = spend_ascends txs judged working.ascending;
  penalties = spend_all (λ row. row.penalty_at ≤ h) txs judged working.penalties;
})

pub next_whole : (h : ℕ) (hash root : Hash256) (after : Worked) → is_zero hash.0 ≡ false → IsWorking h after.rows → OutputsAscend after.outputs → IsWithin after → IsWhole (kept_of h hash root (listing after))
next_whole h hash root after some working outputs few = record {
  hash = some;
  keys = working.keys;
  rows = working.ascending;
  outputs = outputs;
  penalties = working.penalties;
  masternodes = few.masternodes;
  collaterals = few.collaterals;
}

-- the root that is kept of the tip is that of its stored rows
pub tip_root : (tip : Kept) (state : State) (list : Worked) → StandsAt tip state → listing list ≡ record { rows = tip.rows; outputs = tip.outputs } → tip.root ≡ root_of (simple list.rows)
tip_root tip state list at same =
    at.root ∙ ap (λ (rows : List MnRow). root_of (simple rows)) (sym at.rows) ∙ ap root_of (simple_seen state.height tip.rows) ∙ ap (λ (l : Listing). root_of (simple l.rows)) (sym same)
