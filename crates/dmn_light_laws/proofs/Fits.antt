-- The fields of rows keep their lengths through a block.
use Rattle.std.proofs.Common.{◌≡◌, ℕ, ◌==◌, Bool, true, false, cond, length, refl, arith}
use Rattle.std.specs.Str.{bytes_eq}
use Rattle.dmn_bytes.specs.declared.hash.Hash256.{Hash256}
use Rattle.dmn_bytes.specs.Points.{service}
use Rattle.dmn_client.specs.Sound.{RowFits}
use Rattle.dmn_payloads.specs.declared.payloads.ProReg.{ProReg}
use Rattle.dmn_payloads.specs.declared.payloads.Revoke.{Revoke as Revocation}
use Rattle.dmn_payloads.specs.declared.payloads.UpReg.{UpReg}
use Rattle.dmn_payloads.specs.declared.payloads.UpServ.{UpServ}
use Rattle.dmn_payloads.specs.Payloads.{pro_reg, up_reg, up_serv}
use Rattle.dmn_bytes.specs.declared.points.Pay.{Pay}
use Rattle.dmn_rows.specs.declared.row.MnRow.{MnRow}
use Rattle.dmn_rows.specs.Row.{ban}
use Rattle.dmn_rows.specs.Waiting.{is_due}
use Rattle.dmn_rules.specs.Change.{cleared, registered, rekeyed, revoked, served}
use Rattle.dmn_standing.specs.Standing.{confirm, decrease, most_penalty, punished, raised}

-- the same in each part that an entry repeats
alike : (row new : MnRow) → new.hash ≡ row.hash → new.confirmed ≡ row.confirmed → new.service ≡ row.service → new.operator ≡ row.operator → new.voting ≡ row.voting → RowFits row → RowFits new
alike row new hash confirmed service operator voting f = record {
  hash = rw hash f.hash;
  confirmed = rw confirmed f.confirmed;
  address = rw service f.address;
  port = rw service f.port;
  operator = rw operator f.operator;
  voting = rw voting f.voting;
}

either_fits : (b : Bool) (row new : MnRow) → RowFits row → RowFits new → RowFits (cond b row new)
either_fits true row new f g = f
either_fits false row new f g = g

pub confirm_fits : (wait height : ℕ) (hash : Hash256) → length hash.0 ≡ 32 → (row : MnRow) → RowFits row → RowFits (confirm wait height hash row)
confirm_fits wait height hash long row f =
    either_fits (is_due wait height row) (record row { confirmed = hash }) row (record { hash = f.hash; confirmed = long; address = f.address; port = f.port; operator = f.operator; voting = f.voting }) f

pub decrease_fits : (row : MnRow) → RowFits row → RowFits (decrease row)
decrease_fits row f = alike row (decrease row) refl refl refl refl refl f

pub ban_fits : (height : ℕ) (row : MnRow) → RowFits row → RowFits (ban height row)
ban_fits height row f = either_fits (row.banned == 0) (record row { banned = height }) row (alike row (record row { banned = height }) refl refl refl refl refl f) f

pub punished_fits : (height count : ℕ) (row : MnRow) → RowFits row → RowFits (punished height count row)
unfolding punished
punished_fits height count row f =
    let raised_row : MnRow = record row { penalty = raised count row.penalty } in
    let g : RowFits raised_row = alike row raised_row refl refl refl refl refl f in
    either_fits (raised_row.penalty == most_penalty count) (ban height raised_row) raised_row (ban_fits height raised_row g) g

pub paid_fits : (height : ℕ) (row : MnRow) → RowFits row → RowFits (record row { last_paid = height })
paid_fits height row f = alike row (record row { last_paid = height }) refl refl refl refl refl f

-- ---- what provider transactions put

pub registered_fits : (height : ℕ) (id : Hash256) (p : ProReg) (script : Pay) → length id.0 ≡ 32 → pro_reg.Fits p → RowFits (registered height id p script)
unfolding registered pro_reg service
registered_fits height id p script long fits = record {
  hash = long;
  confirmed = refl;
  address = fits.1.1.1.1.0.0;
  port = fits.1.1.1.1.0.1;
  operator = fits.1.1.1.1.1.1.0;
  voting = fits.1.1.1.1.1.1.1.0;
}

pub served_fits : (height : ℕ) (up : UpServ) → up_serv.Fits up → (row : MnRow) → RowFits row → RowFits (served height up row)
unfolding served up_serv service
served_fits height up fits row f =
    let g : RowFits (record row { service = up.service }) = record { hash = f.hash; confirmed = f.confirmed; address = fits.1.1.0.0; port = fits.1.1.0.1; operator = f.operator; voting = f.voting } in
    either_fits (row.banned == 0) _ _ (alike (record row { service = up.service }) _ refl refl refl refl refl g) (alike (record row { service = up.service }) _ refl refl refl refl refl g)

cleared_fits : (row : MnRow) → RowFits row → RowFits (cleared row)
cleared_fits row f = record { hash = f.hash; confirmed = f.confirmed; address = refl; port = omega arith; operator = refl; voting = f.voting }

pub rekeyed_fits : (height : ℕ) (up : UpReg) → up_reg.Fits up → (row : MnRow) → RowFits row → RowFits (rekeyed height up row)
unfolding rekeyed up_reg
rekeyed_fits height up fits row f =
    let kept : MnRow = cond (bytes_eq row.operator up.operator) row (ban height (cleared row)) in
    let k : RowFits kept = either_fits (bytes_eq row.operator up.operator) row (ban height (cleared row)) f (ban_fits height (cleared row) (cleared_fits row f)) in
    record { hash = k.hash; confirmed = k.confirmed; address = k.address; port = k.port; operator = fits.1.1.1.0; voting = fits.1.1.1.1.0 }

pub revoked_fits : (height : ℕ) (p : Revocation) (row : MnRow) → RowFits row → RowFits (revoked height p row)
unfolding revoked
revoked_fits height p row f = alike (ban height (cleared row)) (revoked height p row) refl refl refl refl refl (ban_fits height (cleared row) (cleared_fits row f))
