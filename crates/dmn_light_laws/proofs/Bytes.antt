-- What a block's body says of its transactions.
use Rattle.std.proofs.Common.{◌≡◌, ℕ, Bool, true, false, List, [], ◌∷◌, ◌++◌, length, sym, ap, subst, ◌∙◌, arith}
use Rattle.std.specs.Int.{w16, w32, to_le_bytes}
use Rattle.std.specs.List.{AllByRecursion, flat_map}
use Rattle.std.proofs.lemmas.List.{drop-append-le, drop_all, take-append-le, take_all}
use Rattle.std.proofs.lemmas.List.Concat.{flat_map-cons}
use Rattle.dmn_block.specs.declared.frame.BlockFrame.{BlockFrame}
use Rattle.dmn_block.specs.Body.{connect_body, header}
use Rattle.dmn_bytes.specs.Format.{blob_within, choose, compact, counted, only}
use Rattle.dmn_bytes.specs.Law.{IsBytes}
use Rattle.dmn_bytes.specs.Sound.{IsBytes-drop, IsBytes-take}
use Rattle.dmn_rows.specs.Verdict.{verdict}
use Rattle.dmn_tx.specs.declared.kinds.TheConstants.{LONGEST_PAYLOAD}
use Rattle.dmn_tx.specs.declared.tx.Tx.{Tx}
use Rattle.dmn_tx.specs.Tx.{is_special, payload_of, tx, tx_in, tx_out}
use Rattle.dmn_light_laws.specs.Branches.{HasBody}

front : (xs ys : List ℕ) → IsBytes (xs ++ ys) → IsBytes xs
front xs ys bytes = subst IsBytes (take-append-le (length xs) xs ys (omega arith) ∙ take_all (length xs) xs (omega arith)) (IsBytes-take (length xs) (xs ++ ys) bytes)

back : (xs ys : List ℕ) → IsBytes (xs ++ ys) → IsBytes ys
back xs ys bytes = subst IsBytes (drop-append-le (length xs) xs ys (omega arith) ∙ ap (λ (l : List ℕ). l ++ ys) (drop_all (length xs) xs (omega arith))) (IsBytes-drop (length xs) (xs ++ ys) bytes)

no_bytes : IsBytes []
no_bytes i = omega arith

by_kind : (special : Bool) (payload : List ℕ) → (choose special (blob_within LONGEST_PAYLOAD) (only [])).Fits payload → IsBytes ((choose special (blob_within LONGEST_PAYLOAD) (only [])).text payload) → IsBytes payload
unfolding blob_within
by_kind true payload fits bytes = back _ payload bytes
by_kind false payload fits bytes = subst IsBytes (sym fits) no_bytes

-- the payload of a transaction is a part of its text
payload_bytes : (t : Tx) → tx.Fits t → IsBytes (tx.text t) → IsBytes t.payload
unfolding tx payload_of
payload_bytes t fits bytes =
    let payload = (choose (is_special t.version t.kind) (blob_within LONGEST_PAYLOAD) (only [])).text t.payload in
    let behind_outputs = to_le_bytes w32 t.lock ++ payload in
    let behind_inputs = (counted tx_out).text t.outputs ++ behind_outputs in
    let behind_kind = (counted tx_in).text t.inputs ++ behind_inputs in
    let behind_version = to_le_bytes w16 t.kind ++ behind_kind in
    by_kind (is_special t.version t.kind) t.payload fits.1.1.1.1.1
    (back (to_le_bytes w32 t.lock) payload (back ((counted tx_out).text t.outputs) behind_outputs (back ((counted tx_in).text t.inputs) behind_inputs (back (to_le_bytes w16 t.kind) behind_kind (back (to_le_bytes w16 t.version) behind_version bytes)))))

abbrev PayloadIsBytes : Tx → Type 0
PayloadIsBytes t = IsBytes t.payload

payloads_bytes : (txs : List Tx) → AllByRecursion tx.Fits txs → IsBytes (flat_map tx.text txs) → AllByRecursion PayloadIsBytes txs
payloads_bytes [] fits bytes = tt
payloads_bytes (t ∷ txs) fits bytes =
    let joined : IsBytes (tx.text t ++ flat_map tx.text txs) = subst IsBytes (flat_map-cons tx.text t txs) bytes in
    (payload_bytes t fits.0 (front (tx.text t) _ joined), payloads_bytes txs fits.1 (back (tx.text t) _ joined))

-- its hash has 32 bytes, each transaction has a text, and its payload is bytes
pub record IsWell (block : BlockFrame) : Type 0 where
  pub hash : length block.hash.0 ≡ 32
  pub fits : AllByRecursion tx.Fits block.txs
  pub payloads : AllByRecursion (λ (t : Tx). IsBytes t.payload) block.txs

pub is_well : (block : BlockFrame) → HasBody block → IsWell block
unfolding connect_body counted
is_well block has =
    let fits = has.text.1 in
    let numbers = has.text.0 in
    let bytes = subst IsBytes has.text.2 has.bytes in
    let txs = flat_map tx.text block.txs in
    let told = (counted verdict).text block.verdicts in
    let counted_txs = compact.text (length block.txs) ++ txs in
    let head = header.text (record { version = numbers.version; prev = block.prev; merkle = block.merkle; time = numbers.time; bits = numbers.bits; nonce = numbers.nonce }) in
    record {
      hash = fits.0;
      fits = fits.1.1.0.1.1;
      payloads = payloads_bytes block.txs fits.1.1.0.1.1 (back (compact.text (length block.txs)) txs (front counted_txs told (back head (counted_txs ++ told) (back block.hash.0 (head ++ (counted_txs ++ told)) bytes))));
    }
