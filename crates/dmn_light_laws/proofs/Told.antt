-- What the rules on a block say of its root and of its coinbase.
use Rattle.std.proofs.Common.{◌≡◌, ℕ, ◌+◌, ◌≤◌, ◌==◌, Bool, true, false, List, [], ◌∷◌, ◌++◌, length, refl, sym, ap, ◌∙◌, subst, nat_lt}
use Rattle.std.specs.Prelude.{Option, None, Some, Result, Ok, Err, not, ◌&&◌, ◌||◌}
use Rattle.std.specs.Option.{option_or}
use Rattle.std.specs.Result.{is_ok, result_ok}
use Rattle.std.specs.Str.{bytes_eq}
use Rattle.std.proofs.lemmas.Slice.Eq.{bytes_eq-Decides}
use Rattle.dmn_block.specs.declared.frame.BlockFrame.{BlockFrame}
use Rattle.dmn_block.specs.declared.refusal.Refusal.{Refusal}
use Rattle.dmn_block.specs.Defs.{HasItsIds}
use Rattle.dmn_block.specs.Shape.{Numbered, begins_with_coinbase, broken_rule, by_block, coinbase_rules, first_broken, id_rules, is_no_payload, least, link_rules, of_tx, payload_rules, stands_earlier, tx_rules, unnumbered, verdict_rules, version_of, when}
use Rattle.dmn_branch.specs.Step.{Outcome, coinbase_in, last_rules, most_rows}
use Rattle.dmn_branch.proofs.Stepping.{last_says}
use Rattle.dmn_bytes.specs.declared.fault.Departure.{Departure}
use Rattle.dmn_bytes.specs.declared.hash.Hash256.{Hash256}
use Rattle.dmn_bytes.specs.Format.{whole}
use Rattle.dmn_client.specs.Coinbase.{committed_of}
use Rattle.dmn_client.specs.Sound.{root_of_txs, told_by}
use Rattle.dmn_merkle.specs.Defs.{merkle_root}
use Rattle.dmn_payloads.specs.declared.payloads.CbTx.{CbTx}
use Rattle.dmn_payloads.specs.Payloads.{cb}
use Rattle.dmn_rows.specs.declared.rule.Rule.TheVariants.{BadMerkle, DuplicateTx}
use Rattle.dmn_rows.proofs.Table.{first_broken_append}
use Rattle.dmn_sml.specs.Defs.{root_of, simple}
use Rattle.dmn_tx.specs.Coinbase.{is_cb_type, is_coinbase}
use Rattle.dmn_tx.specs.declared.tx.Tx.{Tx}

-- ---- the parts of a table of which no rule is broken

neither : (a b : Option Refusal) → option_or a b ≡ None → (a ≡ None) × (b ≡ None)
neither None b e = (refl, e)
neither (Some refusal) b e = absurd cc

parts : (xs ys : Numbered) → first_broken (unnumbered (xs ++ ys)) ≡ None → (first_broken (unnumbered xs) ≡ None) × (first_broken (unnumbered ys) ≡ None)
parts xs ys e = neither (first_broken (unnumbered xs)) (first_broken (unnumbered ys)) (sym (first_broken_append xs ys) ∙ e)

first_none : (a : Option Refusal) (rest : List (Option Refusal)) → first_broken (a ∷ rest) ≡ None → (a ≡ None) × (first_broken rest ≡ None)
first_none None rest e = (refl, e)
first_none (Some refusal) rest e = absurd cc

held : (b : Bool) (refusal : Refusal) → when (not b) refusal ≡ None → b ≡ true
held true refusal e = refl
held false refusal e = absurd cc

passed : (b : Bool) (refusal : Refusal) → when b refusal ≡ None → b ≡ false
passed true refusal e = absurd cc
passed false refusal e = refl

no_or : (a b : Bool) → (a || b) ≡ false → (a ≡ false) × (b ≡ false)
no_or true b e = absurd cc
no_or false b e = (refl, e)

not_false : (b : Bool) → not b ≡ false → b ≡ true
not_false true e = refl
not_false false e = absurd cc

-- ---- the root of the transactions

pub root_told : (block : BlockFrame) (tip : Hash256) (height : ℕ) → HasItsIds block → broken_rule block tip height ≡ None → block.merkle ≡ root_of_txs block.txs
unfolding id_rules
root_told block tip height ids none =
    let rules = (parts (id_rules block) _ (parts (tx_rules block) _ (parts (link_rules block tip height) _ none).1).1).0 in
    let bad = by_block (BadMerkle (merkle_root block.ids)) in
    let test = bytes_eq block.merkle.0 (merkle_root block.ids).0 in
    let doubled = of_tx (least (length block.ids) (stands_earlier block.ids)) DuplicateTx in
    let same = held test bad (first_none (when (not test) bad) [] (first_none doubled (when (not test) bad ∷ []) rules).1).0 in
    ap (λ (bytes : List ℕ). record { 0 = bytes }) ((bytes_eq-Decides _ _).0 same) ∙ ap merkle_root ids

-- ---- the coinbase

-- a block's first transaction is a coinbase, and its payload is this value
pub record Tells (txs : List Tx) (value : CbTx) : Type 0 where
  pub told : told_by txs ≡ Some value.rows
  pub payload : coinbase_in txs ≡ Some value

payload_there : (payload : List ℕ) → is_no_payload payload ≡ false → (version_of payload == 1) ≡ true → is_ok (whole cb payload) ≡ true
unfolding is_no_payload
payload_there payload short one =
    let both = (no_or (nat_lt (length payload) 2) _ short).1 in
    not_false (is_ok (whole cb payload)) (sym (ap (λ (b : Bool). b && not (is_ok (whole cb payload))) one) ∙ both)

ok_there : (r : Result CbTx Departure) → is_ok r ≡ true → (value : CbTx) × (r ≡ Ok value)
ok_there (Ok value) e = (value, refl)
ok_there (Err d) e = absurd cc

tells_first : (t : Tx) (txs : List Tx) (value : CbTx) → is_coinbase t ≡ true → is_cb_type t ≡ true → whole cb t.payload ≡ Ok value → Tells (t ∷ txs) value
unfolding committed_of
tells_first t txs value coinbase kind read = record {
  told = rw (coinbase, kind, read) refl;
  payload = ap result_ok read;
}

pub coinbase_told : (block : BlockFrame) (tip : Hash256) (height : ℕ) → broken_rule block tip height ≡ None → (value : CbTx) × Tells block.txs value
unfolding begins_with_coinbase payload_rules tx_rules
coinbase_told block tip height none = go block.txs begins last
  where
    behind_link : first_broken (unnumbered (tx_rules block ++ (id_rules block ++ (verdict_rules block ++ coinbase_rules (height + 1) block.txs)))) ≡ None
    behind_link = (parts (link_rules block tip height) _ none).1

    begins : begins_with_coinbase block.txs ≡ true
    begins = held (begins_with_coinbase block.txs) _ (first_none _ _ (parts (tx_rules block) _ behind_link).0).0

    last : first_broken (unnumbered (coinbase_rules (height + 1) block.txs)) ≡ None
    last = (parts (verdict_rules block) _ (parts (id_rules block) _ (parts (tx_rules block) _ behind_link).1).1).1

    go : (txs : List Tx) → begins_with_coinbase txs ≡ true → first_broken (unnumbered (coinbase_rules (height + 1) txs)) ≡ None → (value : CbTx) × Tells txs value
    go [] first rules = absurd cc
    go (t ∷ txs) first rules =
        let a = first_none _ _ rules in
        let b = first_none _ _ a.1 in
        let shape = no_or (not (is_cb_type t)) (is_no_payload t.payload) (passed _ _ a.0) in
        let there = ok_there (whole cb t.payload) (payload_there t.payload shape.1 (held (version_of t.payload == 1) _ b.0)) in
        (there.0, tells_first t txs there.0 first (not_false (is_cb_type t) shape.0) there.1)

-- behind the last rules the coinbase tells the root of the list after the block, and that has no more rows than there may be
pub list_told : (txs : List Tx) (value : CbTx) (after : Outcome) → Tells txs value → first_broken (unnumbered (last_rules (coinbase_in txs) after)) ≡ None → (told_by txs ≡ Some (root_of (simple after.list.rows))) × (length after.list.rows ≤ most_rows)
list_told txs value after tells none =
    let says = last_says value after (subst (λ (o : Option CbTx). first_broken (unnumbered (last_rules o after)) ≡ None) tells.payload none) in
    (tells.told ∙ ap (λ (root : Hash256). Some root) says.root, says.rows)
