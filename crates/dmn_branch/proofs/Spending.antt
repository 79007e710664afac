-- What spending does to rows as they are seen at a height, and what it keeps.
use Rattle.std.proofs.Common.{◌≡◌, ℕ, ◌+◌, Bool, true, false, not, cond, List, [], ◌∷◌, filter, refl, ap, ◌∙◌, sym, suc, ◌<◌, length, get_or, drop, add-one}
use Rattle.std.specs.Prelude.{◌==◌, Result, Ok, Err, OnOk}
use Rattle.std.specs.List.{All}
use Rattle.std.proofs.Math.Seq.{drop-cons}
use Rattle.std.proofs.lemmas.List.Elements.{All-filter}
use Rattle.dmn_block.specs.Spend as def
use Rattle.dmn_bytes.specs.declared.fault.Memory.{Memory}
use Rattle.dmn_bytes.specs.declared.hash.Hash256.{Hash256}
use Rattle.dmn_bytes.specs.declared.points.OutPoint.{OutPoint}
use Rattle.dmn_rows.specs.declared.row.MnRow.{MnRow}
use Rattle.dmn_rows.specs.Distinct.{HasDistinctKeys}
use Rattle.dmn_rows.specs.Listing.{Listing, IsAscending}
use Rattle.dmn_rows.proofs.Keys.{IsAscending-filter}
use Rattle.dmn_payloads.specs.Scripts.{pay_of}
use Rattle.dmn_rows.specs.Rows.{Outputs, plain_rows, has_collateral, put_output}
use Rattle.dmn_rules.proofs.Distinct.{HasDistinctKeys-filter}
use Rattle.dmn_rules.proofs.Seen.{filter-plain}
use Rattle.dmn_tx.specs.declared.tx.Tx.{Tx}
use Rattle.dmn_tx.specs.declared.tx.TxIn.{TxIn}
use Rattle.dmn_tx.specs.declared.tx.TxOut.{TxOut}
use Rattle.dmn_tx.specs.Defs.{id_of}

-- stored rows as they are seen at a height
abbrev pub seen : ℕ → Listing → Listing
seen h list = record list { rows = plain_rows h list.rows }

pub point_seen : (h : ℕ) (point : OutPoint) (list : Listing) → def.spend_point point (seen h list) ≡ seen h (def.spend_point point list)
point_seen h point list = ap (λ (rows : List MnRow). record { rows = rows; outputs = (def.spend_point point list).outputs }) (filter-plain (λ row. not (has_collateral point row)) (λ _ _. refl) h list.rows)

pub inputs_seen : (h : ℕ) (inputs : List TxIn) (list : Listing) → def.spend_inputs inputs (seen h list) ≡ seen h (def.spend_inputs inputs list)
inputs_seen h [] list = refl
inputs_seen h (input ∷ inputs) list = ap (def.spend_inputs inputs) (point_seen h input.point list) ∙ inputs_seen h inputs (def.spend_point input.point list)

pub output_seen : (h : ℕ) (point : OutPoint) (output : TxOut) (list : Listing) → def.add_output point output (seen h list) ≡ seen h (def.add_output point output list)
output_seen h point output list = go (record list { outputs = put_output point (pay_of output.script) list.outputs }) (output.value == def.collateral_value)
  where
    go : (added : Listing) (b : Bool) → cond b (seen h added) (seen h list) ≡ seen h (cond b added list)
    go added true = refl
    go added false = refl

pub outputs_seen : (h : ℕ) (id : Hash256) (index : ℕ) (outputs : List TxOut) (list : Listing) → def.add_outputs id index outputs (seen h list) ≡ seen h (def.add_outputs id index outputs list)
outputs_seen h id index [] list = refl
outputs_seen h id index (output ∷ outputs) list =
    let point : OutPoint = record { hash = id; index = index } in
    ap (def.add_outputs id (index + 1) outputs) (output_seen h point output list) ∙ outputs_seen h id (index + 1) outputs (def.add_output point output list)

pub tx_seen : (h : ℕ) (tx : Tx) (list : Listing) → def.spend_tx tx (seen h list) ≡ seen h (def.spend_tx tx list)
tx_seen h tx list = ap (def.add_outputs (id_of tx) 0 tx.outputs) (inputs_seen h tx.inputs list) ∙ outputs_seen h (id_of tx) 0 tx.outputs (def.spend_inputs tx.inputs list)

-- spending sees nothing of penalties
pub spend_seen : (h : ℕ) (txs : List Tx) (list : Listing) → def.spend txs (seen h list) ≡ seen h (def.spend txs list)
spend_seen h [] list = refl
spend_seen h (tx ∷ txs) list = ap (def.spend txs) (tx_seen h tx list) ∙ spend_seen h txs (def.spend_tx tx list)

-- ---- it only leaves rows out

-- what holds of rows holds of those that are left
abbrev StaysByFilter : (List MnRow → Type 0) → Type 0
StaysByFilter P = (keep : MnRow → Bool) (rows : List MnRow) → P rows → P (filter keep rows)

module _ (P : List MnRow → Type 0) (stays : StaysByFilter P) where
  inputs_keep : (inputs : List TxIn) (list : Listing) → P list.rows → P (def.spend_inputs inputs list).rows
  inputs_keep [] list holds = holds
  inputs_keep (input ∷ inputs) list holds = inputs_keep inputs (def.spend_point input.point list) (stays _ list.rows holds)

  output_keeps : (point : OutPoint) (output : TxOut) (list : Listing) → P list.rows → P (def.add_output point output list).rows
  output_keeps point output list holds = go (put_output point (pay_of output.script) list.outputs) (output.value == def.collateral_value)
    where
      go : (outputs : Outputs) (b : Bool) → P (cond b (record list { outputs = outputs }) list).rows
      go outputs true = holds
      go outputs false = holds

  outputs_keep : (id : Hash256) (index : ℕ) (outputs : List TxOut) (list : Listing) → P list.rows → P (def.add_outputs id index outputs list).rows
  outputs_keep id index [] list holds = holds
  outputs_keep id index (output ∷ outputs) list holds =
      let point : OutPoint = record { hash = id; index = index } in
      outputs_keep id (index + 1) outputs (def.add_output point output list) (output_keeps point output list holds)

  pub spend_keeps : (txs : List Tx) (list : Listing) → P list.rows → P (def.spend txs list).rows
  spend_keeps [] list holds = holds
  spend_keeps (tx ∷ txs) list holds = spend_keeps txs (def.spend_tx tx list) (outputs_keep (id_of tx) 0 tx.outputs (def.spend_inputs tx.inputs list) (inputs_keep tx.inputs list holds))

pub spend_keys : (txs : List Tx) (list : Listing) → HasDistinctKeys list.rows → HasDistinctKeys (def.spend txs list).rows
spend_keys = spend_keeps HasDistinctKeys HasDistinctKeys-filter

pub spend_all : (P : MnRow → Type 0) (txs : List Tx) (list : Listing) → All P list.rows → All P (def.spend txs list).rows
spend_all P = spend_keeps (All P) (λ keep. All-filter keep P)

pub spend_ascends : (txs : List Tx) (list : Listing) → IsAscending list.rows → IsAscending (def.spend txs list).rows
spend_ascends = spend_keeps IsAscending IsAscending-filter

-- adding outputs leaves the rows
outputs_keys : (id : Hash256) (outputs : List TxOut) (list : Listing) → HasDistinctKeys list.rows → HasDistinctKeys (def.add_outputs id 0 outputs list).rows
outputs_keys id outputs = outputs_keep HasDistinctKeys HasDistinctKeys-filter id 0 outputs

pub added_keys : (r : Result (Unit {0}) Memory) (id : Hash256) (outputs : List TxOut) (list new : Listing) → HasDistinctKeys list.rows → OnOk r (new ≡ def.add_outputs id 0 outputs list) → OnOk r (HasDistinctKeys new.rows)
added_keys (Ok done) id outputs list new keys after = rw after (outputs_keys id outputs list keys)
added_keys (Err lack) id outputs list new keys after = tt

-- what is left from a place on
pub cons_at : {X : Type 0} (xs : List X) (i : ℕ) (x : X) → i < length xs → x ≡ get_or xs i x → drop i xs ≡ x ∷ drop (i + 1) xs
cons_at xs i x lt is = drop-cons xs i x lt ∙ ap (λ (t : _). t ∷ drop (suc i) xs) (sym is) ∙ ap (λ (n : ℕ). x ∷ drop n xs) (sym (add-one i))
