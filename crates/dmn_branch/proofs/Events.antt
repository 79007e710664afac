-- The events of a block, by rows as they are stored and by places.
use Rattle.std.proofs.Common.{◌≡◌, ℕ, ◌+◌, ◌<◌, ◌≤◌, Bool, true, false, cond, List, [], ◌∷◌, length, find, filter, Option, None, Some, refl, sym, ap, ◌∙◌, inl, inr, arith}
use Rattle.std.specs.Prelude.{◌==◌, is_some}
use Rattle.std.specs.Option.{option_map, option_and_then, unwrap_or}
use Rattle.std.proofs.lemmas.Bool.{cases_Bool, ne_eqb}
use Rattle.std.proofs.lemmas.List.{length-map}
use Rattle.dmn_block.specs.Spend as def
use Rattle.dmn_bytes.specs.declared.hash.Hash256.{Hash256}
use Rattle.dmn_bytes.specs.declared.points.OutPoint.{OutPoint}
use Rattle.dmn_indexes.specs.Working.{counted}
use Rattle.dmn_rows.specs.declared.row.MnRow.{MnRow}
use Rattle.dmn_rows.specs.Keys.{same_hash-from}
use Rattle.dmn_rows.specs.Listing.{Listing}
use Rattle.dmn_rows.specs.Row.{plain}
use Rattle.dmn_rows.specs.Rows.{Outputs, has_hash, has_collateral, hash_where, output_at, plain_rows}
use Rattle.dmn_rows.specs.Waiting.{is_due}
use Rattle.dmn_rows.proofs.Lookups.{IsBlind, find-plain, filter-plain}
use Rattle.dmn_rules.specs.declared.effect.Effect.{Effect}
use Rattle.dmn_rules.specs.declared.effect.Effect.TheVariants.{Register, Update}
use Rattle.dmn_rules.specs.Defs.{told_of, told_read_of}
use Rattle.dmn_rules.specs.declared.provider.Provider.{Provider}
use Rattle.dmn_rules.specs.Payload.{provider_of}
use Rattle.dmn_tx.specs.declared.tx.Tx.{Tx}
use Rattle.dmn_tx.specs.declared.tx.TxIn.{TxIn}
use Rattle.dmn_tx.specs.declared.tx.TxOut.{TxOut}
use Rattle.dmn_tx.specs.Defs.{id_of}
use Rattle.dmn_branch.specs.Events.{once_there, confirmations, effect_events, tx_events, point_events, inputs_events, output_events, outputs_events, spend_tx_events, spend_events}
use Rattle.dmn_branch.proofs.Spending as rows
use Rattle.dmn_branch.proofs.Spending.{seen}

-- ---- as rows are seen at a height

some_mapped : {A B : Type 0} (f : A → B) (o : Option A) → is_some (option_map f o) ≡ is_some o
some_mapped f None = refl
some_mapped f (Some x) = refl

found_seen : (test : MnRow → Bool) → IsBlind test → (h : ℕ) (list : List MnRow) → is_some (find test (plain_rows h list)) ≡ is_some (find test list)
found_seen test blind h list = ap is_some (find-plain test blind h list) ∙ some_mapped (plain h) (find test list)

pub there_seen : (h : ℕ) (who : Option Hash256) (list : List MnRow) → once_there who (plain_rows h list) ≡ once_there who list
there_seen h None list = refl
there_seen h (Some hash) list = ap counted (found_seen (has_hash hash) (λ _ _. refl) h list)

pub confirmations_seen : (h wait height : ℕ) (list : List MnRow) → confirmations wait height (plain_rows h list) ≡ confirmations wait height list
confirmations_seen h wait height list =
    ap length (filter-plain (is_due wait height) (λ _ _. refl) h list) ∙ length-map (filter (is_due wait height) list) (plain h)

effect_seen : (h : ℕ) (list : List MnRow) (effect : Option Effect) → effect_events (plain_rows h list) effect ≡ effect_events list effect
effect_seen h list None = refl
effect_seen h list (Some (Register row replaced)) = ap (λ n. n + 1) (there_seen h replaced list)
effect_seen h list (Some (Update row)) = refl

-- the events of a transaction, by what is told of it
pub told_events : (h : ℕ) (list : List MnRow) (outputs : Outputs) (tx : Tx) (effect : Effect) → told_of (plain_rows h list) outputs tx h ≡ Some effect → tx_events (plain_rows h list) outputs tx h ≡ effect_events list (Some effect)
unfolding tx_events
told_events h list outputs tx effect told = ap (effect_events (plain_rows h list)) told ∙ effect_seen h list (Some effect)

above_four : (kind n : ℕ) → 4 < kind → n ≤ 4 → (kind == n) ≡ false
above_four kind n above le = ne_eqb kind n (λ is. absurd (omega (arith, above, le, is)))

no_provider : (kind : ℕ) (payload : List ℕ) → 4 < kind → provider_of kind payload ≡ None
unfolding provider_of
no_provider kind payload above =
    rw (above_four kind 1 above (omega arith), above_four kind 2 above (omega arith), above_four kind 3 above (omega arith), above_four kind 4 above (omega arith)) refl

-- a transaction of a type above the providers' has none
pub other_events : (list : List MnRow) (outputs : Outputs) (tx : Tx) (height : ℕ) → 4 < tx.kind → tx_events list outputs tx height ≡ 0
unfolding tx_events
other_events list outputs tx height above =
    ap (λ (o : Option Provider). effect_events list (option_and_then (told_read_of list outputs tx height) o)) (no_provider tx.kind tx.payload above)

point_seen : (h : ℕ) (point : OutPoint) (list : Listing) → point_events point (seen h list) ≡ point_events point list
point_seen h point list =
    ap (λ b. counted b + counted (is_some (output_at list.outputs point))) (found_seen (has_collateral point) (λ _ _. refl) h list.rows)

inputs_seen : (h : ℕ) (inputs : List TxIn) (list : Listing) → inputs_events inputs (seen h list) ≡ inputs_events inputs list
inputs_seen h [] list = refl
inputs_seen h (input ∷ inputs) list =
    ap (λ (l : Listing). point_events input.point (seen h list) + inputs_events inputs l) (rows.point_seen h input.point list)
    ∙ ap (λ n. n + inputs_events inputs (seen h (def.spend_point input.point list))) (point_seen h input.point list)
    ∙ ap (λ n. point_events input.point list + n) (inputs_seen h inputs (def.spend_point input.point list))

outputs_seen : (h : ℕ) (id : Hash256) (index : ℕ) (outputs : List TxOut) (list : Listing) → outputs_events id index outputs (seen h list) ≡ outputs_events id index outputs list
outputs_seen h id index [] list = refl
outputs_seen h id index (output ∷ outputs) list =
    let point : OutPoint = record { hash = id; index = index } in
    ap (λ (l : Listing). output_events point output list + outputs_events id (index + 1) outputs l) (rows.output_seen h point output list)
    ∙ ap (λ n. output_events point output list + n) (outputs_seen h id (index + 1) outputs (def.add_output point output list))

tx_seen : (h : ℕ) (tx : Tx) (list : Listing) → spend_tx_events tx (seen h list) ≡ spend_tx_events tx list
tx_seen h tx list =
    ap (λ n. n + outputs_events (id_of tx) 0 tx.outputs (def.spend_inputs tx.inputs (seen h list))) (inputs_seen h tx.inputs list)
    ∙ ap (λ (l : Listing). inputs_events tx.inputs list + outputs_events (id_of tx) 0 tx.outputs l) (rows.inputs_seen h tx.inputs list)
    ∙ ap (λ n. inputs_events tx.inputs list + n) (outputs_seen h (id_of tx) 0 tx.outputs (def.spend_inputs tx.inputs list))

-- spending has the same events
pub spend_events_seen : (h : ℕ) (txs : List Tx) (list : Listing) → spend_events txs (seen h list) ≡ spend_events txs list
spend_events_seen h [] list = refl
spend_events_seen h (tx ∷ txs) list =
    ap (λ n. n + spend_events txs (def.spend_tx tx (seen h list))) (tx_seen h tx list)
    ∙ ap (λ (l : Listing). spend_tx_events tx list + spend_events txs l) (rows.tx_seen h tx list)
    ∙ ap (λ n. spend_tx_events tx list + n) (spend_events_seen h txs (def.spend_tx tx list))

-- ---- the row that passes a test, by its hash

-- where one passes it, the row of its hash is there
pub found_by_hash : (test : MnRow → Bool) (hash : Hash256) (list : List MnRow) → hash_where test list ≡ Some hash → is_some (find (has_hash hash) list) ≡ is_some (find test list)
found_by_hash test hash [] is = cc
found_by_hash test hash (row ∷ list) is = elim (cases_Bool (test row)) [
  | inl passes ↦
      let here : Some row.hash ≡ Some hash = sym (ap (λ b. option_map (λ (r : MnRow). r.hash) (cond b (Some row) (find test list))) passes) ∙ is in
      let same : has_hash hash row ≡ true = same_hash-from row.hash hash (ap (λ o. unwrap_or o hash) here) in
      rw (passes, same) refl
  | inr fails ↦
      let later : hash_where test list ≡ Some hash = sym (ap (λ b. option_map (λ (r : MnRow). r.hash) (cond b (Some row) (find test list))) fails) ∙ is in
      let rest = found_by_hash test hash list later in
      let some : is_some (find test list) ≡ true = some_where (find test list) later in
      elim (cases_Bool (has_hash hash row)) [
        | inl same ↦ rw (fails, same) (sym some)
        | inr differs ↦ rw (fails, differs) rest
      ]
]
  where
    some_where : (o : Option MnRow) → option_map (λ (r : MnRow). r.hash) o ≡ Some hash → is_some o ≡ true
    some_where None e = absurd cc
    some_where (Some r) e = refl

pub none_by_hash : (test : MnRow → Bool) (list : List MnRow) → hash_where test list ≡ None → is_some (find test list) ≡ false
none_by_hash test list is = go (find test list) is
  where
    go : (o : Option MnRow) → option_map (λ (r : MnRow). r.hash) o ≡ None → is_some o ≡ false
    go None e = refl
    go (Some r) e = absurd cc
