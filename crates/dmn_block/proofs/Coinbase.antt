-- The rules on a coinbase's payload, by what its reader answers.
use Rattle.std.proofs.Common.{◌≡◌, ℕ, ◌≤◌, Bool, true, false, List, [], ◌∷◌, ◌++◌, length, Option, Some, None, Result, Ok, Err, refl, subst, arith, inl, inr}
use Rattle.std.specs.Prelude.{◌&&◌, ◌==◌, not, nat_lt, nat_le, if◌then◌else◌}
use Rattle.std.specs.Int.{w16, w32, to_le_bytes}
use Rattle.std.proofs.lemmas.Bool.{cases_lt, lt-ltb, le-ltb, le-leb, leb-true}
use Rattle.std.proofs.lemmas.List.{length-append}
use Rattle.dmn_bytes.specs.declared.fault.Departure.{Departure}
use Rattle.dmn_bytes.specs.Format.{whole}
use Rattle.dmn_payloads.specs.Fault.{other_version, AnswersBy}
use Rattle.dmn_payloads.specs.Payloads.{cb, version_one}
use Rattle.dmn_payloads.specs.declared.payloads.CbTx.{CbTx}
use Rattle.dmn_payloads.specs.declared.fault.PayloadFault.TheVariants.{PayloadVersion, PayloadForm}
use Rattle.dmn_rows.specs.declared.rule.Rule.TheVariants.{CbPayload, CbVersion}
use Rattle.dmn_tx.specs.declared.tx.Tx.{Tx}
use Rattle.dmn_block.specs.declared.refusal.Refusal.{Refusal}
use Rattle.dmn_block.specs.Shape.{unnumbered, first_broken, by_tx, payload_rules, version_of, is_no_payload, is_cb_type, other_height}

-- ---- what the reader's answer says

pub answers_ok : (o : Option ℕ) (parsed : Result CbTx Departure) (value : CbTx) → AnswersBy o parsed (Ok value) → (o ≡ None) × (parsed ≡ Ok value)
answers_ok None parsed value h = (refl, h)
answers_ok (Some found) parsed value h = absurd cc

pub answers_version : (o : Option ℕ) (parsed : Result CbTx Departure) (found : ℕ) → AnswersBy o parsed (Err (PayloadVersion found)) → o ≡ Some found
answers_version None parsed found h = absurd h
answers_version (Some other) parsed found h = cc

departed : (parsed : Result CbTx Departure) (at : ℕ) → AnswersBy None parsed (Err (PayloadForm at)) → (d : Departure) × (parsed ≡ Err d)
departed (Ok v) at h = absurd h
departed (Err d) at h = (d, refl)

pub answers_form : (o : Option ℕ) (parsed : Result CbTx Departure) (at : ℕ) → AnswersBy o parsed (Err (PayloadForm at)) → (o ≡ None) × ((d : Departure) × (parsed ≡ Err d))
answers_form None parsed at h = (refl, departed parsed at h)
answers_form (Some other) parsed at h = absurd cc

-- ---- the three rules

chosen : (a b : Bool) (v found : ℕ) → (if a && not b then Some v else None) ≡ Some found → (b ≡ false) × (a ≡ true) × (v ≡ found)
chosen true false v found e = (refl, refl, cc)
chosen true true v found e = absurd cc
chosen false b v found e = absurd cc

not_chosen : (b : Bool) (v : ℕ) → (if true && not b then Some v else None) ≡ None → b ≡ true
not_chosen true v e = refl
not_chosen false v e = absurd cc

-- two bytes that give no other version give version 1
is_one : (payload : List ℕ) → 2 ≤ length payload → other_version payload ≡ None → (version_of payload == 1) ≡ true
is_one payload long none =
    let two : nat_le 2 (length payload) ≡ true = le-leb 2 (length payload) long in
    not_chosen (version_of payload == 1) (version_of payload) (subst (λ (b : Bool). (if b && not (version_of payload == 1) then Some (version_of payload) else None) ≡ None) two none)

pub payload_other : (height : ℕ) (tx : Tx) → is_cb_type tx ≡ false → first_broken (unnumbered (payload_rules height tx)) ≡ Some (by_tx 0 CbPayload)
unfolding payload_rules
payload_other height tx other = rw other refl

long_by : (n : ℕ) → nat_le 2 n ≡ true → 2 ≤ n
long_by n e = leb-true 2 n e

pub payload_version : (height : ℕ) (tx : Tx) (found : ℕ) → is_cb_type tx ≡ true → other_version tx.payload ≡ Some found → first_broken (unnumbered (payload_rules height tx)) ≡ Some (by_tx 0 (CbVersion found))
unfolding payload_rules is_no_payload
payload_version height tx found is e =
    let h = chosen (nat_le 2 (length tx.payload)) (version_of tx.payload == 1) (version_of tx.payload) found e in
    let long : nat_lt (length tx.payload) 2 ≡ false = le-ltb (length tx.payload) 2 (long_by (length tx.payload) h.1) in
    rw (is, long, h.0, h.2) refl

pub payload_form : (height : ℕ) (tx : Tx) (d : Departure) → is_cb_type tx ≡ true → other_version tx.payload ≡ None → whole cb tx.payload ≡ Err d → first_broken (unnumbered (payload_rules height tx)) ≡ Some (by_tx 0 CbPayload)
unfolding payload_rules is_no_payload
payload_form height tx d is none e =
    elim (cases_lt (length tx.payload) 2) [
      | inl short ↦ rw (is, lt-ltb (length tx.payload) 2 short) refl
      | inr long ↦ rw (is, le-ltb (length tx.payload) 2 long, is_one tx.payload long none, e) refl
    ]

only_one : (o : Option Refusal) → first_broken (o ∷ []) ≡ o
only_one None = refl
only_one (Some refusal) = refl

pub payload_ok : (height : ℕ) (tx : Tx) (value : CbTx) → is_cb_type tx ≡ true → other_version tx.payload ≡ None → whole cb tx.payload ≡ Ok value → 2 ≤ length tx.payload → first_broken (unnumbered (payload_rules height tx)) ≡ other_height height (Ok value)
unfolding payload_rules is_no_payload
payload_ok height tx value is none e long = rw (is, le-ltb (length tx.payload) 2 long, is_one tx.payload long none, e) (only_one (other_height height (Ok value)))

pub cb_long : (value : CbTx) → 2 ≤ length (cb.text value)
unfolding cb version_one
cb_long value = omega (arith, length-append (to_le_bytes w16 value.version) (to_le_bytes w32 value.height ++ value.rows.0))
