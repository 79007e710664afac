-- The text of a row as it is after a block, field by field.
use Rattle.std.specs.Prelude.{◌≡◌, ℕ, List, length, refl}
use Rattle.std.specs.Int.{w16, w32}
use Rattle.dmn_bytes.specs.Format.{Format, via, ◌⊗◌, only, hash, number, fixed}
use Rattle.dmn_bytes.specs.Points.{out_point, out_point_sound, pay, pay_sound, service, service_sound}
use Rattle.dmn_bytes.specs.Law.{IsSound}
use Rattle.dmn_bytes.specs.Sound.{via_sound, both_sound, only_sound, hash_sound, number16_sound, number32_sound, fixed_sound}
use Rattle.dmn_rows.specs.declared.row.MnRow.{MnRow}
use Rattle.dmn_rows.specs.Row.{plain}

-- hash, confirmed, registered, last paid, revived, banned, penalty, reason, owner, operator, voting, service, payout,
-- operator's payout, reward, collateral and its script; such a row has no `penalty_at`
unfoldable pub row : Format MnRow
row = via
    (λ (hash, (confirmed, (registered, (last_paid, (revived, (banned, (penalty, (penalty_at, (reason, (owner, (operator, (voting, (service, (payout, (operator_payout, (reward, (collateral, script))))))))))))))))). record { hash = hash; confirmed = confirmed; registered = registered; last_paid = last_paid; revived = revived; banned = banned; penalty = penalty; penalty_at = penalty_at; reason = reason; owner = owner; operator = operator; voting = voting; service = service; payout = payout; operator_payout = operator_payout; reward = reward; collateral = collateral; script = script })
    (λ v. (v.hash, (v.confirmed, (v.registered, (v.last_paid, (v.revived, (v.banned, (v.penalty, (v.penalty_at, (v.reason, (v.owner, (v.operator, (v.voting, (v.service, (v.payout, (v.operator_payout, (v.reward, (v.collateral, v.script))))))))))))))))))
    (hash ⊗ hash ⊗ number w32 ⊗ number w32 ⊗ number w32 ⊗ number w32 ⊗ number w32 ⊗ only 0 ⊗ number w16 ⊗ fixed 20 ⊗ fixed 48 ⊗ fixed 20 ⊗ service ⊗ pay ⊗ pay ⊗ number w16 ⊗ out_point ⊗ pay)

-- the text of a stored row, as it is after block h
abbrev pub row_text : ℕ → MnRow → List ℕ
row_text h r = row.text (plain h r)

-- the lengths of a row's fields
pub record HasLengths (r : MnRow) : Type 0 where
  pub hash : length r.hash.0 ≡ 32
  pub confirmed : length r.confirmed.0 ≡ 32
  pub owner : length r.owner ≡ 20
  pub operator : length r.operator ≡ 48
  pub voting : length r.voting ≡ 20
  pub address : length r.service.address ≡ 16
  pub payout : length r.payout.hash ≡ 20
  pub operator_payout : length r.operator_payout.hash ≡ 20
  pub collateral : length r.collateral.hash.0 ≡ 32
  pub script : length r.script.hash ≡ 20

pub row_sound : IsSound row
unfolding row
row_sound = via_sound _ _ _ (λ v. refl) (λ a fits. refl)
    (both_sound _ _ hash_sound (both_sound _ _ hash_sound (both_sound _ _ number32_sound (both_sound _ _ number32_sound (both_sound _ _ number32_sound (both_sound _ _ number32_sound (both_sound _ _ number32_sound
    (both_sound _ _ (only_sound 0) (both_sound _ _ number16_sound (both_sound _ _ (fixed_sound 20) (both_sound _ _ (fixed_sound 48) (both_sound _ _ (fixed_sound 20) (both_sound _ _ service_sound
    (both_sound _ _ pay_sound (both_sound _ _ pay_sound (both_sound _ _ number16_sound (both_sound _ _ out_point_sound pay_sound)))))))))))))))))
