-- The payloads of a registration, of its three updates and of the coinbase, field by field (DIP-0003, DIP-0004).
use Rattle.std.specs.Prelude.{ℕ, ◌==◌, refl}
use Rattle.std.specs.Int.{w16, w32}
use Rattle.dmn_bytes.specs.declared.fault.Departure.TheVariants.{Form}
use Rattle.dmn_bytes.specs.Format.{Format, via, ◌⊗◌, number, fixed, hash, blob, kept}
use Rattle.dmn_bytes.specs.Points.{out_point, out_point_sound, service, service_sound}
use Rattle.dmn_bytes.specs.Law.{IsSound}
use Rattle.dmn_bytes.specs.Sound.{via_sound, both_sound, kept_here, number16_sound, number32_sound, fixed_sound, hash_sound, blob_sound}
use Rattle.dmn_payloads.specs.declared.payloads.ProReg.{ProReg}
use Rattle.dmn_payloads.specs.declared.payloads.UpServ.{UpServ}
use Rattle.dmn_payloads.specs.declared.payloads.UpReg.{UpReg}
use Rattle.dmn_payloads.specs.declared.payloads.Revoke.{Revoke}
use Rattle.dmn_payloads.specs.declared.payloads.CbTx.{CbTx}

-- the only version that is read
unfoldable pub version_one : Format ℕ
version_one = kept (λ i. Form i) (λ v. v == 1) (number w16)

-- type 1: registers a masternode
unfoldable pub pro_reg : Format ProReg
pro_reg = via
    (λ (version, (kind, (mode, (collateral, (service, (owner, (operator, (voting, (reward, (payout, (inputs, signature))))))))))). record { version = version; kind = kind; mode = mode; collateral = collateral; service = service; owner = owner; operator = operator; voting = voting; reward = reward; payout = payout; inputs = inputs; signature = signature })
    (λ v. (v.version, (v.kind, (v.mode, (v.collateral, (v.service, (v.owner, (v.operator, (v.voting, (v.reward, (v.payout, (v.inputs, v.signature))))))))))))
    (version_one ⊗ number w16 ⊗ number w16 ⊗ out_point ⊗ service ⊗ fixed 20 ⊗ fixed 48 ⊗ fixed 20 ⊗ number w16 ⊗ blob ⊗ hash ⊗ blob)

-- type 2: its operator changes where it serves
unfoldable pub up_serv : Format UpServ
up_serv = via
    (λ (version, (pro_tx, (service, (payout, (inputs, signature))))). record { version = version; pro_tx = pro_tx; service = service; payout = payout; inputs = inputs; signature = signature })
    (λ v. (v.version, (v.pro_tx, (v.service, (v.payout, (v.inputs, v.signature))))))
    (version_one ⊗ hash ⊗ service ⊗ blob ⊗ hash ⊗ fixed 96)

-- type 3: its owner changes keys and payout
unfoldable pub up_reg : Format UpReg
up_reg = via
    (λ (version, (pro_tx, (mode, (operator, (voting, (payout, (inputs, signature))))))). record { version = version; pro_tx = pro_tx; mode = mode; operator = operator; voting = voting; payout = payout; inputs = inputs; signature = signature })
    (λ v. (v.version, (v.pro_tx, (v.mode, (v.operator, (v.voting, (v.payout, (v.inputs, v.signature))))))))
    (version_one ⊗ hash ⊗ number w16 ⊗ fixed 48 ⊗ fixed 20 ⊗ blob ⊗ hash ⊗ blob)

-- type 4: its operator gives up
unfoldable pub revoke : Format Revoke
revoke = via
    (λ (version, (pro_tx, (reason, (inputs, signature)))). record { version = version; pro_tx = pro_tx; reason = reason; inputs = inputs; signature = signature })
    (λ v. (v.version, (v.pro_tx, (v.reason, (v.inputs, v.signature)))))
    (version_one ⊗ hash ⊗ number w16 ⊗ hash ⊗ fixed 96)

-- type 5: the coinbase tells the height and the root of the masternode list
unfoldable pub cb : Format CbTx
cb = via
    (λ (version, (height, rows)). record { version = version; height = height; rows = rows })
    (λ v. (v.version, (v.height, v.rows)))
    (version_one ⊗ number w32 ⊗ hash)

-- ---- each reads as its texts

pub version_one_sound : IsSound version_one
unfolding version_one
version_one_sound = kept_here (λ v. v == 1) (number w16) number16_sound

pub pro_reg_sound : IsSound pro_reg
unfolding pro_reg
pro_reg_sound = via_sound _ _ _ (λ v. refl) (λ a fits. refl)
    (both_sound _ _ version_one_sound (both_sound _ _ number16_sound (both_sound _ _ number16_sound (both_sound _ _ out_point_sound (both_sound _ _ service_sound (both_sound _ _ (fixed_sound 20)
    (both_sound _ _ (fixed_sound 48) (both_sound _ _ (fixed_sound 20) (both_sound _ _ number16_sound (both_sound _ _ blob_sound (both_sound _ _ hash_sound blob_sound)))))))))))

pub up_serv_sound : IsSound up_serv
unfolding up_serv
up_serv_sound = via_sound _ _ _ (λ v. refl) (λ a fits. refl) (both_sound _ _ version_one_sound (both_sound _ _ hash_sound (both_sound _ _ service_sound (both_sound _ _ blob_sound (both_sound _ _ hash_sound (fixed_sound 96))))))

pub up_reg_sound : IsSound up_reg
unfolding up_reg
up_reg_sound = via_sound _ _ _ (λ v. refl) (λ a fits. refl)
    (both_sound _ _ version_one_sound (both_sound _ _ hash_sound (both_sound _ _ number16_sound (both_sound _ _ (fixed_sound 48) (both_sound _ _ (fixed_sound 20) (both_sound _ _ blob_sound (both_sound _ _ hash_sound blob_sound)))))))

pub revoke_sound : IsSound revoke
unfolding revoke
revoke_sound = via_sound _ _ _ (λ v. refl) (λ a fits. refl) (both_sound _ _ version_one_sound (both_sound _ _ hash_sound (both_sound _ _ number16_sound (both_sound _ _ hash_sound (fixed_sound 96)))))

pub cb_sound : IsSound cb
unfolding cb
cb_sound = via_sound _ _ _ (λ v. refl) (λ a fits. refl) (both_sound _ _ version_one_sound (both_sound _ _ number32_sound hash_sound))
