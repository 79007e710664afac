-- A row as it is stored, field by field.
use Rattle.std.specs.Prelude.{refl}
use Rattle.std.specs.Int.{w16, w32}
use Rattle.dmn_bytes.specs.Format.{Format, via, ◌⊗◌, hash, number, fixed}
use Rattle.dmn_bytes.specs.Law.{IsSound}
use Rattle.dmn_bytes.specs.Points.{out_point, out_point_sound, pay, pay_sound, service, service_sound}
use Rattle.dmn_bytes.specs.Sound.{via_sound, both_sound, hash_sound, number16_sound, number32_sound, fixed_sound}
use Rattle.dmn_rows.specs.declared.row.MnRow.{MnRow}

-- the fields of a row's text, with the penalty that is stored, and behind them the height for which that is true
unfoldable pub stored_row : Format MnRow
stored_row = via
    (λ (hash, (confirmed, (registered, (last_paid, (revived, (banned, (penalty, (reason, (owner, (operator, (voting, (service, (payout, (operator_payout, (reward, (collateral, (script, penalty_at))))))))))))))))). record { hash = hash; confirmed = confirmed; registered = registered; last_paid = last_paid; revived = revived; banned = banned; penalty = penalty; penalty_at = penalty_at; reason = reason; owner = owner; operator = operator; voting = voting; service = service; payout = payout; operator_payout = operator_payout; reward = reward; collateral = collateral; script = script })
    (λ v. (v.hash, (v.confirmed, (v.registered, (v.last_paid, (v.revived, (v.banned, (v.penalty, (v.reason, (v.owner, (v.operator, (v.voting, (v.service, (v.payout, (v.operator_payout, (v.reward, (v.collateral, (v.script, v.penalty_at))))))))))))))))))
    (hash ⊗ hash ⊗ number w32 ⊗ number w32 ⊗ number w32 ⊗ number w32 ⊗ number w32 ⊗ number w16 ⊗ fixed 20 ⊗ fixed 48 ⊗ fixed 20 ⊗ service ⊗ pay ⊗ pay ⊗ number w16 ⊗ out_point ⊗ pay ⊗ number w32)

pub stored_row_sound : IsSound stored_row
unfolding stored_row
stored_row_sound = via_sound _ _ _ (λ v. refl) (λ a fits. refl)
    (both_sound _ _ hash_sound (both_sound _ _ hash_sound (both_sound _ _ number32_sound (both_sound _ _ number32_sound (both_sound _ _ number32_sound (both_sound _ _ number32_sound (both_sound _ _ number32_sound
    (both_sound _ _ number16_sound (both_sound _ _ (fixed_sound 20) (both_sound _ _ (fixed_sound 48) (both_sound _ _ (fixed_sound 20) (both_sound _ _ service_sound
    (both_sound _ _ pay_sound (both_sound _ _ pay_sound (both_sound _ _ number16_sound (both_sound _ _ out_point_sound (both_sound _ _ pay_sound number32_sound)))))))))))))))))
