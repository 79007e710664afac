-- A transaction, field by field (DIP-0002). Each format is a table of its fields in order.
use Rattle.std.specs.Prelude.{◌≡◌, ◌≤◌, length, MatchBool, ℕ, Bool, not, ◌&&◌, ◌==◌, List, [], refl}
use Rattle.std.specs.Int.{w16, w32, w64}
use Rattle.dmn_bytes.specs.Format.{Format, via, ◌⊗◌, ◌▹◌, number, blob, blob_within, counted, choose, only}
use Rattle.dmn_bytes.specs.Points.{out_point, out_point_sound}
use Rattle.dmn_bytes.specs.Law.{IsSound}
use Rattle.dmn_bytes.specs.Sound.{via_sound, both_sound, then_sound, choose_sound, only_sound, number16_sound, number32_sound, number64_sound, blob_sound, blob_within_sound, counted_sound}
use Rattle.dmn_tx.specs.declared.kinds.TheConstants.{SPECIAL_VERSION, LONGEST_PAYLOAD}
use Rattle.dmn_tx.specs.declared.tx.TxIn.{TxIn}
use Rattle.dmn_tx.specs.declared.tx.TxOut.{TxOut}
use Rattle.dmn_tx.specs.declared.tx.Tx.{Tx}

unfoldable pub tx_in : Format TxIn
tx_in = via
    (λ (point, (script, sequence)). record { point = point; script = script; sequence = sequence })
    (λ v. (v.point, (v.script, v.sequence)))
    (out_point ⊗ blob ⊗ number w32)

unfoldable pub tx_out : Format TxOut
tx_out = via
    (λ (value, script). record { value = value; script = script })
    (λ v. (v.value, v.script))
    (number w64 ⊗ blob)

-- a special transaction: of its version, and of a type that isn't 0
abbrev pub is_special : ℕ → ℕ → Bool
is_special version kind = (version == SPECIAL_VERSION) && not (kind == 0)

-- a special transaction has a payload of at most so many bytes, and another has none
unfoldable pub payload_of : ℕ → ℕ → Format (List ℕ)
payload_of version kind = choose (is_special version kind) (blob_within LONGEST_PAYLOAD) (only [])

unfoldable pub tx : Format Tx
tx = via
    (λ (version, (kind, (inputs, (outputs, (lock, payload))))). record { version = version; kind = kind; inputs = inputs; outputs = outputs; lock = lock; payload = payload })
    (λ v. (v.version, (v.kind, (v.inputs, (v.outputs, (v.lock, v.payload))))))
    (number w16 ▹ λ version. number w16 ▹ λ kind. counted tx_in ⊗ counted tx_out ⊗ number w32 ⊗ payload_of version kind)

-- the payload that a transaction may have, as a condition on writing it
abbrev pub KeepsPayload : Tx → Type 0
KeepsPayload v = MatchBool (is_special v.version v.kind) (length v.payload ≤ LONGEST_PAYLOAD) (v.payload ≡ [])

-- ---- each reads as its texts

pub tx_in_sound : IsSound tx_in
unfolding tx_in
tx_in_sound = via_sound _ _ _ (λ v. refl) (λ a fits. refl) (both_sound _ _ out_point_sound (both_sound _ _ blob_sound number32_sound))

pub tx_out_sound : IsSound tx_out
unfolding tx_out
tx_out_sound = via_sound _ _ _ (λ v. refl) (λ a fits. refl) (both_sound _ _ number64_sound blob_sound)

payload_sound : (version kind : ℕ) → IsSound (payload_of version kind)
unfolding payload_of
payload_sound version kind = choose_sound (is_special version kind) _ _ (blob_within_sound LONGEST_PAYLOAD) (only_sound [])

pub tx_sound : IsSound tx
unfolding tx
tx_sound = via_sound _ _ _ (λ v. refl) (λ a fits. refl)
    (then_sound _ _ number16_sound (λ version. then_sound _ _ number16_sound (λ kind.
    both_sound _ _ (counted_sound tx_in tx_in_sound) (both_sound _ _ (counted_sound tx_out tx_out_sound) (both_sound _ _ number32_sound (payload_sound version kind))))))
