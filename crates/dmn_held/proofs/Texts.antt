-- The texts of lists are those of their items one after the other; a transaction has bytes.
use Rattle.std.proofs.Common.{◌≡◌, ℕ, ◌<◌, false, List, [], ◌∷◌, ◌++◌, length, refl, sym, ap, ◌∙◌, arith}
use Rattle.std.specs.Prelude.{Bool, true, ◌==◌, Option, Some}
use Rattle.std.specs.Int.{w16, w32, to_le_bytes}
use Rattle.std.specs.List.{flat_map}
use Rattle.std.specs.declared.cmp.Ordering.{Ordering}
use Rattle.std.proofs.lemmas.Bool.{ne_eqb}
use Rattle.std.proofs.lemmas.List.{append-nil, length-append}
use Rattle.std.proofs.lemmas.List.Concat.{flat_map-cons}
use Rattle.dmn_bytes.specs.declared.hash.Hash256.{Hash256}
use Rattle.dmn_bytes.specs.Format.{Format, ◌▹◌, ◌⊗◌, choose, compact, counted, following, last_key, number, only, series_text}
use Rattle.dmn_rows.specs.declared.row.MnRow.{MnRow}
use Rattle.dmn_tx.specs.Tx.{tx, tx_in, tx_out, payload_of}
use Rattle.dmn_tx.specs.declared.tx.Tx.{Tx}
use Rattle.dmn_held.specs.Coinbase.{behind_size, behind_size_if, coinbase_part, no_part, part_if, tx_size}
use Rattle.dmn_held.specs.Lists.{hash_of, next_row}
use Rattle.dmn_held.specs.Present.{present}
use Rattle.dmn_held.specs.Row.{stored_row}
use Rattle.dmn_held.specs.declared.coinbase.CoinbasePart.{CoinbasePart}

-- keys that ascend by themselves
pub keys_text : {K : Type 0} (cmp : K → K → Ordering) (key : Format K) (last : Option K) (ks : List K) → series_text (following cmp (λ k. k) key (λ k. only k)) (last_key (λ k. k)) last ks ≡ flat_map key.text ks
unfolding series_text
keys_text cmp key last [] = refl
keys_text cmp key last (k ∷ ks) = ap (λ (front : List ℕ). front ++ series_text (following cmp (λ k. k) key (λ k. only k)) (last_key (λ k. k)) (Some k) ks) (append-nil (key.text k)) ∙ ap (λ (rest : List ℕ). key.text k ++ rest) (keys_text cmp key (Some k) ks) ∙ sym (flat_map-cons key.text k ks)

pub rows_text : (last : Option Hash256) (rs : List MnRow) → series_text next_row (last_key hash_of) last rs ≡ flat_map stored_row.text rs
unfolding series_text next_row
rows_text last [] = refl
rows_text last (r ∷ rs) = ap (λ (rest : List ℕ). stored_row.text r ++ rest) (rows_text (Some r.hash) rs) ∙ sym (flat_map-cons stored_row.text r rs)

-- ---- a transaction has bytes, so a part that is there isn't read as one that is not

two_and_more : (front rest : List ℕ) → length front ≡ 2 → 0 < length (front ++ rest)
two_and_more front rest is = omega (arith, is, length-append front rest)

tx_has_bytes : (t : Tx) → 0 < length (tx.text t)
unfolding tx
tx_has_bytes t = two_and_more (to_le_bytes w16 t.version) ((number w16 ▹ λ kind. counted tx_in ⊗ counted tx_out ⊗ number w32 ⊗ payload_of t.version kind).text (t.kind, (t.inputs, (t.outputs, (t.lock, t.payload))))) refl

chosen_second : {A : Type 0} (b : Bool) (f g : Format A) (v : A) → b ≡ false → (choose b f g).text v ≡ g.text v
chosen_second true f g v e = absurd cc
chosen_second false f g v e = refl

pub part_text : (part : CoinbasePart) → coinbase_part.text part ≡ part_if.text (Some part)
unfolding coinbase_part part_if behind_size_if
part_text part =
    let some : (tx_size part == 0) ≡ false = ne_eqb (tx_size part) 0 (λ (none : tx_size part ≡ 0). omega (arith, none, tx_has_bytes part.tx)) in
    sym (ap (λ (rest : List ℕ). compact.text (tx_size part) ++ rest) (chosen_second (tx_size part == 0) no_part (present (behind_size (tx_size part))) (Some part) some))
