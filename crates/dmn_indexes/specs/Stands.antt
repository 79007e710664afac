-- A version as the state of a height: its stored rows are seen at that height, since no block writes a row only to lower
-- its penalty.
use Rattle.std.specs.Prelude.{◌≡◌, ℕ, ◌≤◌, List}
use Rattle.std.specs.List.{All}
use Rattle.dmn_bytes.specs.Points.{point_cmp}
use Rattle.dmn_rows.specs.declared.row.MnRow.{MnRow}
use Rattle.dmn_rows.specs.Rows.{Outputs, plain_rows}
use Rattle.dmn_versions.specs.Trees.{reads}
use Rattle.dmn_indexes.specs.declared.indexes.Indexes.{Indexes}
use Rattle.dmn_indexes.specs.declared.version.Version.{Version}
use Rattle.dmn_indexes.specs.Index.{index_of}
use Rattle.dmn_indexes.specs.Keys.{owner_cmp, operator_cmp, service_cmp, pay_cmp, unconfirmed_cmp, owner_of, operator_of, service_of, collateral_of, pay_of, unconfirmed_of}
use Rattle.dmn_indexes.specs.Version.{IsWhole, rows_in, outputs_in}

-- The row tree reads, at the height, as these rows, and no stored penalty is that of a later height. The other trees read
-- as the indexes of these rows, and as these outputs.
pub record StandsAt (ix : Indexes) (v : Version) (height : ℕ) (rows : List MnRow) (outputs : Outputs) : Type 0 where
  pub rows_read : plain_rows height (rows_in ix v) ≡ rows
  pub penalties : All (λ row. row.penalty_at ≤ height) (rows_in ix v)
  pub owner : reads ix.owner v.owner ≡ index_of owner_cmp owner_of rows
  pub operator : reads ix.operator v.operator ≡ index_of operator_cmp operator_of rows
  pub service : reads ix.service v.service ≡ index_of service_cmp service_of rows
  pub collateral : reads ix.collateral v.collateral ≡ index_of point_cmp collateral_of rows
  pub payment : reads ix.payment v.payment ≡ index_of pay_cmp pay_of rows
  pub unconfirmed : reads ix.unconfirmed v.unconfirmed ≡ index_of unconfirmed_cmp unconfirmed_of rows
  pub outputs_read : outputs_in ix v ≡ outputs

-- a whole version stands so for what its rows are at the height
abbrev pub WholeStands : Type 0
WholeStands = (ix : Indexes) (v : Version) (height : ℕ) → IsWhole ix v → All (λ row. row.penalty_at ≤ height) (rows_in ix v) → StandsAt ix v height (plain_rows height (rows_in ix v)) (outputs_in ix v)
