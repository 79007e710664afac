-- Parts of a row: the keys that no other row may have, and what the simplified list shows.
use Rattle.std.specs.Prelude.{ℕ, ◌==◌, Bool, List}
use Rattle.dmn_bytes.specs.declared.hash.Hash256.{Hash256}
use Rattle.dmn_bytes.specs.declared.points.OutPoint.{OutPoint}
use Rattle.dmn_bytes.specs.declared.points.Service.{Service}
use Rattle.dmn_rows.specs.declared.row.MnRow.{MnRow}

pub record RowKeys : Type 0 where
  pub hash : Hash256
  pub owner : List ℕ
  pub operator : List ℕ
  pub service : Service
  pub collateral : OutPoint

abbrev pub keys_of : MnRow → RowKeys
keys_of r = record { hash = r.hash; owner = r.owner; operator = r.operator; service = r.service; collateral = r.collateral }

-- the fields of an entry of the simplified list (DIP-0004); a row that isn't banned is valid
pub record Shown : Type 0 where
  pub hash : Hash256
  pub confirmed : Hash256
  pub service : Service
  pub operator : List ℕ
  pub voting : List ℕ
  pub valid : Bool

abbrev pub shown : MnRow → Shown
shown r = record { hash = r.hash; confirmed = r.confirmed; service = r.service; operator = r.operator; voting = r.voting; valid = r.banned == 0 }
