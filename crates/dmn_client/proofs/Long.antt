-- A coinbase that tells a root has at least 90 bytes.
use Rattle.std.proofs.Common.{◌≡◌, ℕ, ◌+◌, ◌-◌, ◌≤◌, Bool, true, false, cond, List, [], ◌∷◌, ◌++◌, length, drop, take, Some, None, Result, Ok, Err, refl, sym, ap, subst, ltb, arith}
use Rattle.std.specs.Prelude.{◌==◌, nat_lt}
use Rattle.std.specs.Int.{w16, w32, to_le_bytes, from_le_bytes}
use Rattle.std.specs.List.{flat_map}
use Rattle.std.proofs.lemmas.Bool.{and_parts, eqb-true, ltb-false}
use Rattle.std.proofs.lemmas.List.{length-append}
use Rattle.std.proofs.lemmas.List.Concat.{flat_map-cons}
use Rattle.dmn_bytes.specs.declared.fault.Departure.{Departure}
use Rattle.dmn_bytes.specs.declared.fault.Departure.TheVariants.{Form}
use Rattle.dmn_bytes.specs.declared.hash.Hash256.{Hash256}
use Rattle.dmn_bytes.specs.Format.{Format, ◌>>=◌, piece, number, fixed, hash, via, kept, ◌⊗◌, compact, marked, blob, blob_within, counted, whole}
use Rattle.dmn_bytes.specs.Points.{out_point}
use Rattle.dmn_bytes.specs.Sound.{bind_ok, guard_ok, test_ok, ok_is}
use Rattle.dmn_payloads.specs.Payloads.{cb, version_one}
use Rattle.dmn_payloads.specs.declared.payloads.CbTx.{CbTx}
use Rattle.dmn_tx.specs.declared.tx.Tx.{Tx}
use Rattle.dmn_tx.specs.declared.tx.TxIn.{TxIn}
use Rattle.dmn_tx.specs.Defs.{tx_text}
use Rattle.dmn_tx.specs.Tx.{tx, tx_in, tx_out, payload_of, is_special}
use Rattle.dmn_tx.specs.Coinbase.{is_one_null, is_coinbase, is_cb_type}
use Rattle.dmn_client.specs.Coinbase.{is_cb, rows_of, committed_of}

-- ---- what reading takes at least

abbrev done : {A : Type 0} → A → Result A Departure
done x = Ok x

-- each value takes n bytes at least, and ends within the text
Takes : {V : Type 0} → Format V → ℕ → Type 0
Takes {V} f n = (t : List ℕ) (i j : ℕ) (v : V) → f.parse t i ≡ Ok (v, j) → (i + n ≤ j) × (i ≤ length t → j ≤ length t)

takes_piece : {V : Type 0} (n : ℕ) (text : V → List ℕ) (Fits : V → Type 0) (value : List ℕ → V) → Takes (piece n text Fits value) n
unfolding Takes
takes_piece {V} n text Fits value t i j v h =
    let g = guard_ok (ltb (length t - i) n) (Form i) (value (take n (drop i t)), i + n) (v, j) h in
    let long : n ≤ length t - i = ltb-false _ _ g.0 in
    let end : i + n ≡ j = ap (λ (x : V × ℕ). x.1) g.1 in
    (omega arith, λ le. omega arith)

takes_both : {A B : Type 0} (f : Format A) (g : Format B) (m n k : ℕ) → k ≡ m + n → Takes f m → Takes g n → Takes (f ⊗ g) k
unfolding Takes
takes_both {A} {B} f g m n k is p q t i j v h =
    let a = bind_ok (f.parse t i) (λ x. g.parse t x.1 >>= λ y. done ((x.0, y.0), y.1)) (v, j) h in
    let b = bind_ok (g.parse t a.0.1) (λ y. done ((a.0.0, y.0), y.1)) (v, j) a.2 in
    let first = p t i a.0.1 a.0.0 a.1 in
    let second = q t a.0.1 b.0.1 b.0.0 b.1 in
    let end : b.0.1 ≡ j = ap (λ (x : (A × B) × ℕ). x.1) (ok_is ((a.0.0, b.0.0), b.0.1) (v, j) b.2) in
    let low : i + m ≤ a.0.1 = first.0 in
    let more : a.0.1 + n ≤ b.0.1 = second.0 in
    (omega arith, λ le. (let here : a.0.1 ≤ length t = first.1 le in let there : b.0.1 ≤ length t = second.1 here in omega arith))

takes_via : {A V : Type 0} (to : A → V) (from : V → A) (f : Format A) (n : ℕ) → Takes f n → Takes (via to from f) n
unfolding Takes
takes_via {A} {V} to from f n p t i j v h =
    let a = bind_ok (f.parse t i) (λ x. done (to x.0, x.1)) (v, j) h in
    let end : a.0.1 ≡ j = ap (λ (x : V × ℕ). x.1) (ok_is (to a.0.0, a.0.1) (v, j) a.2) in
    subst (λ (k : ℕ). (i + n ≤ k) × (i ≤ length t → k ≤ length t)) end (p t i a.0.1 a.0.0 a.1)

takes_kept : {A : Type 0} (test : A → Bool) (f : Format A) (n : ℕ) → Takes f n → Takes (kept (λ i. Form i) test f) n
unfolding Takes
takes_kept {A} test f n p t i j v h =
    let a = bind_ok (f.parse t i) (λ x. cond (test x.0) (done x) (Err (Form i))) (v, j) h in
    let g = test_ok (test a.0.0) (Form i) a.0 (v, j) a.2 in
    let end : a.0.1 ≡ j = ap (λ (x : A × ℕ). x.1) g.1 in
    subst (λ (k : ℕ). (i + n ≤ k) × (i ≤ length t → k ≤ length t)) end (p t i a.0.1 a.0.0 a.1)

takes_cb : Takes cb 38
unfolding cb version_one
takes_cb =
    takes_via _ _ _ 38
    (takes_both _ _ 2 36 38 refl (takes_kept (λ v. v == 1) (number w16) 2 (takes_piece 2 _ _ (from_le_bytes w16))) (takes_both (number w32) hash 4 32 36 refl (takes_piece 4 _ _ (from_le_bytes w32)) (takes_via _ _ (fixed 32) 32 (takes_piece 32 _ _ (λ bytes. bytes)))))

pub cb_length : (t : List ℕ) (v : CbTx) → whole cb t ≡ Ok v → 38 ≤ length t
unfolding Takes
cb_length t v h =
    let a = bind_ok (cb.parse t 0) (λ x. cond (nat_lt x.1 (length t)) (Err (Form x.1)) (done x.0)) v h in
    let p = takes_cb t 0 a.0.1 a.0.0 a.1 in
    let low : 38 ≤ a.0.1 = omega (arith, p.0) in
    let high : a.0.1 ≤ length t = p.1 (omega arith) in
    omega arith

-- ---- the fields of a coinbase

compact_some : (n : ℕ) → 1 ≤ length (compact.text n)
unfolding compact marked
compact_some n = omega arith

blob_some : (bytes : List ℕ) → 1 ≤ length (blob.text bytes)
unfolding blob
blob_some bytes = omega (arith, compact_some (length bytes), length-append (compact.text (length bytes)) bytes)

input_long : (i : TxIn) → tx_in.Fits i → 41 ≤ length (tx_in.text i)
unfolding tx_in out_point
input_long i fits =
    let h : length i.point.hash.0 ≡ 32 = fits.0.0 in
    omega (
      arith,
      h,
      blob_some i.script,
      length-append (i.point.hash.0 ++ to_le_bytes w32 i.point.index) (blob.text i.script ++ to_le_bytes w32 i.sequence),
      length-append i.point.hash.0 (to_le_bytes w32 i.point.index),
      length-append (blob.text i.script) (to_le_bytes w32 i.sequence),
    )

counted_some : {V : Type 0} (f : Format V) (vs : List V) → 1 ≤ length ((counted f).text vs)
unfolding counted
counted_some f vs = omega (arith, compact_some (length vs), length-append (compact.text (length vs)) (flat_map f.text vs))

inputs_long : (inputs : List TxIn) → is_one_null inputs ≡ true → (counted tx_in).Fits inputs → 42 ≤ length ((counted tx_in).text inputs)
unfolding counted
inputs_long [] one fits = absurd cc
inputs_long (i ∷ []) one fits =
    let split : flat_map tx_in.text (i ∷ []) ≡ tx_in.text i ++ [] = flat_map-cons tx_in.text i [] in
    let front : length (flat_map tx_in.text (i ∷ [])) ≡ length (tx_in.text i ++ []) = ap (λ (l : List ℕ). length l) split in
    omega (arith, front, input_long i fits.1.1.0, compact_some 1, length-append (tx_in.text i) [], length-append (compact.text 1) (flat_map tx_in.text (i ∷ [])))
inputs_long (i ∷ k ∷ inputs) one fits = absurd cc

payload_long : (version kind : ℕ) (payload : List ℕ) → is_special version kind ≡ true → 1 + length payload ≤ length ((payload_of version kind).text payload)
unfolding payload_of blob_within
payload_long version kind payload special = rw special (omega (arith, compact_some (length payload), length-append (compact.text (length payload)) payload))

cb_special : (version kind : ℕ) → (version == 3) ≡ true → (kind == 5) ≡ true → is_special version kind ≡ true
cb_special version kind v k =
    subst (λ (n : ℕ). is_special version n ≡ true) (sym (eqb-true kind 5 k)) (rw v refl)

joined : (a b inputs outputs lock pay : List ℕ) → length a ≡ 2 → length b ≡ 2 → 42 ≤ length inputs → 1 ≤ length outputs → length lock ≡ 4 → 39 ≤ length pay → 90 ≤ length (a ++ (b ++ (inputs ++ (outputs ++ (lock ++ pay)))))
joined a b inputs outputs lock pay la lb li lo ll lp =
    omega (arith, length-append a (b ++ (inputs ++ (outputs ++ (lock ++ pay)))), length-append b (inputs ++ (outputs ++ (lock ++ pay))), length-append inputs (outputs ++ (lock ++ pay)), length-append outputs (lock ++ pay), length-append lock pay)

cb_long : (t : Tx) (v : CbTx) → tx.Fits t → is_cb t ≡ true → whole cb t.payload ≡ Ok v → 90 ≤ length (tx_text t)
unfolding tx is_coinbase is_cb_type
cb_long t v fits is h =
    let p = and_parts (is_coinbase t) (is_cb_type t) is in
    let q = and_parts (t.version == 3) (t.kind == 5) p.1 in
    let long : 38 ≤ length t.payload = cb_length t.payload v h in
    let pay : 1 + length t.payload ≤ length ((payload_of t.version t.kind).text t.payload) = payload_long t.version t.kind t.payload (cb_special t.version t.kind q.0 q.1) in
    joined (to_le_bytes w16 t.version) (to_le_bytes w16 t.kind) ((counted tx_in).text t.inputs) ((counted tx_out).text t.outputs) (to_le_bytes w32 t.lock) ((payload_of t.version t.kind).text t.payload)
    refl refl (inputs_long t.inputs p.0 fits.1.1.0) (counted_some tx_out t.outputs) refl (omega arith)

by_payload : (t : Tx) (root : Hash256) (r : Result CbTx Departure) → whole cb t.payload ≡ r → tx.Fits t → is_cb t ≡ true → rows_of r ≡ Some root → 90 ≤ length (tx_text t)
by_payload t root (Ok v) h fits is told = cb_long t v fits is h
by_payload t root (Err d) h fits is told = absurd cc

by_kind : (t : Tx) (root : Hash256) (b : Bool) → is_cb t ≡ b → tx.Fits t → cond b (rows_of (whole cb t.payload)) None ≡ Some root → 90 ≤ length (tx_text t)
by_kind t root true is fits told = by_payload t root (whole cb t.payload) refl fits is told
by_kind t root false is fits told = absurd cc

-- a transaction that tells a root is as long as a coinbase
pub told_long : (t : Tx) (root : Hash256) → tx.Fits t → committed_of t ≡ Some root → 90 ≤ length (tx_text t)
unfolding committed_of
told_long t root fits told = by_kind t root (is_cb t) refl fits told
