-- What is in the form in which a snapshot is written.
use Rattle.std.specs.Prelude.{◌≤◌, length}
use Rattle.dmn_bytes.specs.Points.{pay}
use Rattle.dmn_held.specs.Lists.{hashes_field, outputs_field, points_field, rows_field}
use Rattle.dmn_restore.specs.declared.differing.Difference.{Difference}
use Rattle.dmn_rows.specs.declared.limits.TheConstants.{MOST_MASTERNODES, MOST_OUTPUTS}
use Rattle.dmn_rows.specs.declared.row.MnRow.{MnRow}
use Rattle.dmn_rows.specs.declared.start.StartOutput.{StartOutput}
use Rattle.dmn_rows.specs.Listing.{Listing}

-- what a row pays to, and how its collateral is locked, are in their form
pub record HasFormedPays (row : MnRow) : Type 0 where
  pub payout : pay.Fits row.payout
  pub operator : pay.Fits row.operator_payout
  pub script : pay.Fits row.script

abbrev pub HasFormedPay : StartOutput → Type 0
HasFormedPay output = pay.Fits output.pay

-- There are not too many rows and outputs.
pub record IsFormed (list : Listing) : Type 0 where
  pub masternodes : length list.rows ≤ MOST_MASTERNODES
  pub collaterals : length list.outputs ≤ MOST_OUTPUTS

-- each part has a text
pub record IsInForm (d : Difference) : Type 0 where
  pub put : rows_field.Fits d.put
  pub removed : hashes_field.Fits d.removed
  pub added : outputs_field.Fits d.added
  pub spent : points_field.Fits d.spent
