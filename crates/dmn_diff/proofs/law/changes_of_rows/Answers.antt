use Rattle.dmn_diff.proofs.Rows.{rows_deleted, rows_told, told_of_some}
use Rattle.dmn_diff.proofs.law.changes_of_rows.Goals as goal

pub returns : goal.returns
returns c = record { deleted = rows_deleted; entries = rows_told; some = told_of_some }
