-- What provider transactions do to rows and to the list (DIP-0003).
use Rattle.std.specs.Prelude.{ℕ, ◌==◌, not, List, Option, Some, None, find, filter, replicate, if◌then◌else◌}
use Rattle.std.specs.Option.{option_map}
use Rattle.std.specs.Str.{bytes_eq}
use Rattle.dmn_bytes.specs.declared.hash.Hash256.{Hash256}
use Rattle.dmn_bytes.specs.declared.points.Pay.{Pay}
use Rattle.dmn_payloads.specs.declared.payloads.ProReg.{ProReg}
use Rattle.dmn_payloads.specs.declared.payloads.UpServ.{UpServ}
use Rattle.dmn_payloads.specs.declared.payloads.UpReg.{UpReg}
use Rattle.dmn_payloads.specs.declared.payloads.Revoke.{Revoke as Revocation}
use Rattle.dmn_payloads.specs.Scripts.{pay_of}
use Rattle.dmn_rows.specs.declared.row.MnRow.{MnRow}
use Rattle.dmn_rows.specs.Row.{ban}
use Rattle.dmn_rows.specs.Rows.{Outputs, no_service, has_hash, has_collateral, changed, put_row}
use Rattle.dmn_tx.specs.declared.tx.TxOut.{TxOut}
use Rattle.dmn_rules.specs.declared.effect.Effect.{Effect}
use Rattle.dmn_rules.specs.declared.effect.Effect.TheVariants.{Register as Registers, Update}
use Rattle.dmn_rules.specs.declared.provider.Provider.{Provider}
use Rattle.dmn_rules.specs.declared.provider.Provider.TheVariants.{Register, Service, Registrar, Revoke}
use Rattle.dmn_rules.specs.Provider.{is_hash, point_of, replaced_by, script_of}

-- a script that pays to none
abbrev pub no_pay : Pay
no_pay = record { kind = 0; hash = replicate 20 0 }

-- the row of a registration in a transaction of this id: it is banned at once where it tells no service
unfoldable pub registered : ℕ → Hash256 → ProReg → Pay → MnRow
registered height id p script = record {
  hash = id;
  confirmed = record { 0 = replicate 32 0 };
  registered = height;
  last_paid = 0;
  revived = 0;
  banned = if no_service p.service then height else 0;
  penalty = 0;
  penalty_at = 0;
  reason = 0;
  owner = p.owner;
  operator = p.operator;
  voting = p.voting;
  service = p.service;
  payout = pay_of p.payout;
  operator_payout = no_pay;
  reward = p.reward;
  collateral = point_of id p;
  script = script;
}

-- the operator's fields are cleared
abbrev pub cleared : MnRow → MnRow
cleared row = record row { operator = replicate 48 0; service = record { address = replicate 16 0; port = 0 }; operator_payout = no_pay; reason = 0 }

-- a change of service: the operator serves there, and a banned row is revived
unfoldable pub served : ℕ → UpServ → MnRow → MnRow
served height up row =
    let set = record row { service = up.service; operator_payout = pay_of up.payout } in
    if row.banned == 0 then set else record set { penalty = 0; banned = 0; revived = height }

-- a change of keys and payout: a new operator has to tell a service first
unfoldable pub rekeyed : ℕ → UpReg → MnRow → MnRow
rekeyed height up row =
    let kept = if bytes_eq row.operator up.operator then row else ban height (cleared row) in
    record kept { operator = up.operator; voting = up.voting; payout = pay_of up.payout }

-- a revocation: the row has no operator any more
unfoldable pub revoked : ℕ → Revocation → MnRow → MnRow
revoked height p row = let banned = ban height (cleared row) in record banned { reason = p.reason }

-- The list with a registration's row, once the row with its collateral is removed. Where there is a row of its hash,
-- the new one takes its place.
abbrev pub added : ℕ → Hash256 → ProReg → Option Pay → List MnRow → List MnRow
added height id p None rows = rows
added height id p (Some script) rows = put_row (registered height id p script) (filter (λ r. not (has_collateral (point_of id p) r)) rows)

-- the list after a transaction of this id and with these outputs, whose payload was read
abbrev pub list_after : ℕ → Hash256 → List TxOut → Outputs → List MnRow → Provider → List MnRow
list_after height id outs outputs rows (Register p) = added height id p (script_of outs outputs p) rows
list_after height id outs outputs rows (Service up) = changed (served height up) (find (has_hash up.pro_tx) rows) rows
list_after height id outs outputs rows (Registrar up) = changed (rekeyed height up) (find (has_hash up.pro_tx) rows) rows
list_after height id outs outputs rows (Revoke p) = changed (revoked height p) (find (has_hash p.pro_tx) rows) rows

-- the row as it is kept behind a block
abbrev pub stored : ℕ → MnRow → MnRow
stored height row = record row { penalty_at = height }

-- what is told of an accepted transaction of this id and with these outputs, whose payload was read: a registration
-- adds its row and replaces the one whose collateral it names; any other transaction changes the row that it names
abbrev pub told : ℕ → Hash256 → List TxOut → Outputs → List MnRow → Provider → Option Effect
told height id outs outputs rows (Register p) =
    option_map (λ script. Registers (stored height (registered height id p script)) (replaced_by rows (point_of id p))) (script_of outs outputs p)
told height id outs outputs rows (Service up) = option_map (λ row. Update (stored height (served height up row))) (find (has_hash up.pro_tx) rows)
told height id outs outputs rows (Registrar up) = option_map (λ row. Update (stored height (rekeyed height up row))) (find (has_hash up.pro_tx) rows)
told height id outs outputs rows (Revoke p) = option_map (λ row. Update (stored height (revoked height p row))) (find (has_hash p.pro_tx) rows)

-- what an effect does to stored rows
abbrev pub applied : Effect → List MnRow → List MnRow
applied (Registers row replaced) rows = put_row row (filter (λ r. not (is_hash replaced r.hash)) rows)
applied (Update row) rows = put_row row rows

-- the row that an effect puts
abbrev pub row_of : Effect → MnRow
row_of (Registers row replaced) = row
row_of (Update row) = row
