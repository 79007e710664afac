-- What is read as a block keeps its bounds: each transaction has at least one byte, and so has each output.
use Rattle.std.proofs.Common.{◌≡◌, ℕ, ◌+◌, ◌≤◌, List, [], ◌∷◌, ◌++◌, length, ap, refl, arith, ◌∙◌}
use Rattle.std.specs.List.{flat_map, All}
use Rattle.std.specs.Int.{w16, w32, w64, to_le_bytes}
use Rattle.std.proofs.lemmas.List.{length-append}
use Rattle.std.proofs.lemmas.List.Concat.{flat_map-cons}
use Rattle.std.proofs.lemmas.List.Elements.{All-from_recursion, All-weaker, All-nil, All-cons}
use Rattle.dmn_bytes.specs.Format.{hash, counted, blob, compact}
use Rattle.dmn_tx.specs.declared.tx.Tx.{Tx}
use Rattle.dmn_tx.specs.declared.tx.TxOut.{TxOut}
use Rattle.dmn_tx.specs.Tx.{tx, tx_in, tx_out, payload_of, KeepsPayload}
use Rattle.dmn_tx.proofs.Payload.{fits_keeps}
use Rattle.dmn_rows.specs.Verdict.{verdict}
use Rattle.dmn_block.specs.declared.body.ConnectBody.{ConnectBody}
use Rattle.dmn_block.specs.Body.{connect_body, header}
use Rattle.dmn_block.specs.Defs.{IsBlock, most_items}
use Rattle.dmn_block.specs.Frames.{frame_of}

front : (a b : List ℕ) → length a ≤ length (a ++ b)
front a b = omega (arith, length-append a b)

back : (a b : List ℕ) → length b ≤ length (a ++ b)
back a b = omega (arith, length-append a b)

-- texts that aren't empty: there are at most as many of them as bytes
counted_by : {V : Type 0} (text : V → List ℕ) → ((v : V) → 1 ≤ length (text v)) → (vs : List V) → length vs ≤ length (flat_map text vs)
counted_by text some [] = omega arith
counted_by text some (v ∷ vs) =
    let e : length (flat_map text (v ∷ vs)) ≡ length (text v) + length (flat_map text vs) = ap (λ (t : List ℕ). length t) (flat_map-cons text v vs) ∙ length-append (text v) (flat_map text vs) in
    omega (arith, e, some v, counted_by text some vs)

-- each of the texts is at most as long as all of them
each_by : {V : Type 0} (text : V → List ℕ) (vs : List V) → All (λ v. length (text v) ≤ length (flat_map text vs)) vs
each_by text [] = All-nil (λ v. length (text v) ≤ 0)
each_by {V = V} text (v ∷ vs) =
    let e : length (flat_map text (v ∷ vs)) ≡ length (text v) + length (flat_map text vs) = ap (λ (t : List ℕ). length t) (flat_map-cons text v vs) ∙ length-append (text v) (flat_map text vs) in
    All-cons (λ (w : V). length (text w) ≤ length (flat_map text (v ∷ vs))) v vs (omega (arith, e)) (All-weaker (λ (w : V). length (text w) ≤ length (flat_map text vs)) (λ (w : V). length (text w) ≤ length (flat_map text (v ∷ vs))) (λ w h. omega (arith, e, h)) vs (each_by text vs))

-- a text that begins with a number of two bytes
two : (n : ℕ) (rest : List ℕ) → 1 ≤ length (to_le_bytes w16 n ++ rest)
two n rest = omega (arith, length-append (to_le_bytes w16 n) rest)

eight : (n : ℕ) (rest : List ℕ) → 1 ≤ length (to_le_bytes w64 n ++ rest)
eight n rest = omega (arith, length-append (to_le_bytes w64 n) rest)

some_tx : (v : Tx) → 1 ≤ length (tx.text v)
unfolding tx
some_tx v = two v.version (to_le_bytes w16 v.kind ++ ((counted tx_in).text v.inputs ++ ((counted tx_out).text v.outputs ++ (to_le_bytes w32 v.lock ++ (payload_of v.version v.kind).text v.payload))))

some_output : (v : TxOut) → 1 ≤ length (tx_out.text v)
unfolding tx_out
some_output v = eight v.value (blob.text v.script)

-- a piece of a text is at most as long as the text
within_four : (a b c m d : List ℕ) → length m ≤ length (a ++ (b ++ ((c ++ m) ++ d)))
within_four a b c m d =
    omega (arith, length-append a (b ++ ((c ++ m) ++ d)), length-append b ((c ++ m) ++ d), length-append (c ++ m) d, length-append c m)

txs_within : (b : ConnectBody) → length (flat_map tx.text b.txs) ≤ length (connect_body.text b)
unfolding connect_body counted
txs_within b = within_four (hash.text b.hash) (header.text b.header) (compact.text (length b.txs)) (flat_map tx.text b.txs) ((counted verdict).text b.verdicts)

outputs_within : (v : Tx) → length v.outputs ≤ length (tx.text v)
unfolding tx counted
outputs_within v =
    let m : List ℕ = flat_map tx_out.text v.outputs in
    let inner : List ℕ = (counted tx_in).text v.inputs ++ ((compact.text (length v.outputs) ++ m) ++ (to_le_bytes w32 v.lock ++ (payload_of v.version v.kind).text v.payload)) in
    let some : length m ≤ length (to_le_bytes w16 v.kind ++ inner) = within_four (to_le_bytes w16 v.kind) ((counted tx_in).text v.inputs) (compact.text (length v.outputs)) m (to_le_bytes w32 v.lock ++ (payload_of v.version v.kind).text v.payload) in
    omega (arith, some, counted_by tx_out.text some_output v.outputs, back (to_le_bytes w16 v.version) (to_le_bytes w16 v.kind ++ inner))

-- the number of transactions is at most that of the bytes
pub count_within : (b : ConnectBody) → length b.txs ≤ length (connect_body.text b)
count_within b = omega (arith, counted_by tx.text some_tx b.txs, txs_within b)

-- each transaction keeps what it was read by
pub keeps_payloads : (b : ConnectBody) → connect_body.Fits b → All KeepsPayload b.txs
unfolding connect_body counted
keeps_payloads b fits = All-weaker tx.Fits KeepsPayload fits_keeps b.txs (All-from_recursion tx.Fits b.txs fits.1.1.0.1.1)

pub keeps_bounds : (b : ConnectBody) → connect_body.Fits b → length (connect_body.text b) ≤ most_items → IsBlock (frame_of b)
keeps_bounds b fits le = record {
  ids = refl;
  payloads = keeps_payloads b fits;
  outputs = All-weaker (λ (v : Tx). length (tx.text v) ≤ length (flat_map tx.text b.txs)) (λ (v : Tx). length v.outputs ≤ most_items) (λ v h. omega (arith, h, outputs_within v, txs_within b, le)) b.txs (each_by tx.text b.txs);
  count = omega (arith, count_within b, le);
}
