-- The body of a Connect request, field by field: the block's hash, its header of 80 bytes, its transactions, and the
-- verdicts on its signatures.
use Rattle.std.specs.Prelude.{refl}
use Rattle.std.specs.Int.{w32}
use Rattle.dmn_bytes.specs.Format.{Format, via, ◌⊗◌, hash, number, counted}
use Rattle.dmn_bytes.specs.Law.{IsSound}
use Rattle.dmn_bytes.specs.Sound.{via_sound, both_sound, hash_sound, number32_sound, counted_sound}
use Rattle.dmn_tx.specs.Tx.{tx, tx_sound}
use Rattle.dmn_rows.specs.Verdict.{verdict, verdict_sound}
use Rattle.dmn_block.specs.declared.body.Header.{Header}
use Rattle.dmn_block.specs.declared.body.ConnectBody.{ConnectBody}

unfoldable pub header : Format Header
header = via
    (λ (version, (prev, (merkle, (time, (bits, nonce))))). record { version = version; prev = prev; merkle = merkle; time = time; bits = bits; nonce = nonce })
    (λ v. (v.version, (v.prev, (v.merkle, (v.time, (v.bits, v.nonce))))))
    (number w32 ⊗ hash ⊗ hash ⊗ number w32 ⊗ number w32 ⊗ number w32)

unfoldable pub connect_body : Format ConnectBody
connect_body = via
    (λ (block, (head, (txs, verdicts))). record { hash = block; header = head; txs = txs; verdicts = verdicts })
    (λ v. (v.hash, (v.header, (v.txs, v.verdicts))))
    (hash ⊗ header ⊗ counted tx ⊗ counted verdict)

-- ---- each reads as its texts

pub header_sound : IsSound header
unfolding header
header_sound = via_sound _ _ _ (λ v. refl) (λ a fits. refl)
    (both_sound _ _ number32_sound (both_sound _ _ hash_sound (both_sound _ _ hash_sound (both_sound _ _ number32_sound (both_sound _ _ number32_sound number32_sound)))))

pub connect_body_sound : IsSound connect_body
unfolding connect_body
connect_body_sound = via_sound _ _ _ (λ v. refl) (λ a fits. refl)
    (both_sound _ _ hash_sound (both_sound _ _ header_sound (both_sound _ _ (counted_sound tx tx_sound) (counted_sound verdict verdict_sound))))
