-- The length of a row's text.
use Rattle.std.proofs.Common.{◌≡◌, ℕ, ◌+◌, List, ◌∷◌, ◌++◌, length, Result, Ok, Err, refl, ap, ◌∙◌, arith}
use Rattle.std.specs.Prelude.{OnOk}
use Rattle.std.proofs.lemmas.List.{length-append}
use Rattle.dmn_bytes.specs.declared.fault.Memory.{Memory}
use Rattle.dmn_bytes.specs.declared.points.OutPoint.{OutPoint}
use Rattle.dmn_bytes.specs.declared.points.Pay.{Pay}
use Rattle.dmn_bytes.specs.declared.points.Service.{Service}
use Rattle.dmn_bytes.specs.Points.{out_point, pay, pay_kind, pay_hash, service}
use Rattle.dmn_rows.specs.declared.row.MnRow.{MnRow}
use Rattle.dmn_rows.specs.RowText.{row, HasLengths}

record Long (n : ℕ) (bytes : List ℕ) : Type 0 where
  is : length bytes ≡ n

long : {bytes : List ℕ} {n : ℕ} → length bytes ≡ n → Long n bytes
long is = record { is = is }

joined : {a b : List ℕ} (m n : ℕ) → Long m a → Long n b → Long (m + n) (a ++ b)
joined {a} {b} m n first second = record { is = omega (arith, length-append a b, first.is, second.is) }

two : {a b : ℕ} {rest : List ℕ} (n : ℕ) → Long n rest → Long (2 + n) (a ∷ b ∷ rest)
two {a} {b} {rest} n h = record { is = omega (arith, h.is) }

four : {a b c d : ℕ} {rest : List ℕ} (n : ℕ) → Long n rest → Long (4 + n) (a ∷ b ∷ c ∷ d ∷ rest)
four {a} {b} {c} {d} {rest} n h = record { is = omega (arith, h.is) }

long_pay : (p : Pay) → length p.hash ≡ 20 → Long 21 (pay.text p)
unfolding pay pay_kind pay_hash
long_pay p is = record { is = omega (arith, is) }

long_service : (s : Service) → length s.address ≡ 16 → Long 18 (service.text s)
unfolding service
long_service s is = joined 16 2 (long is) (record { is = refl })

long_point : (p : OutPoint) → length p.hash.0 ≡ 32 → Long 36 (out_point.text p)
unfolding out_point
long_point p is = joined 32 4 (long is) (record { is = refl })

long_row : (r : MnRow) → HasLengths r → Long 293 (row.text r)
unfolding row
long_row r has = joined 32 261 (long has.hash) (joined 32 229 (long has.confirmed) (four 225 (four 221 (four 217 (four 213 (four 209 (two 207 (joined 20 187 (long has.owner) (joined 48 139 (long has.operator) (joined 20 119 (long has.voting) (joined 18 101 (long_service r.service has.address) (joined 21 80 (long_pay r.payout has.payout) (joined 21 59 (long_pay r.operator_payout has.operator_payout) (two 57 (joined 36 21 (long_point r.collateral has.collateral) (long_pay r.script has.script))))))))))))))))

pub row_length : (r : MnRow) → HasLengths r → length (row.text r) ≡ 293
row_length r has = (long_row r has).is

pub grown : (result : Result (Unit {0}) Memory) (old new text : List ℕ) (n : ℕ) → length text ≡ n → OnOk result (new ≡ old ++ text) → OnOk result (length new ≡ length old + n)
grown (Ok u) old new text n long is = ap length is ∙ length-append old text ∙ ap (λ (k : ℕ). length old + k) long
grown (Err e) old new text n long is = tt
