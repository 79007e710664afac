use Rattle.std.proofs.Common.{◌≡◌, Some, find, slice_get, subst}
use Rattle.std.specs.Prelude.{IfSome}
use Rattle.std.specs.Option.{option_copied}
use Rattle.dmn_rows.specs.Rows.{has_hash}
use Rattle.dmn_rows.specs.Waiting.{pay_order}
use Rattle.dmn_indexes.specs.Working.{Worked}
use Rattle.dmn_indexes.proofs.working.Working.least_pay.Goals as goal

pub returns-clause-item : goal.returns-clause-item
returns-clause-item c = subst (λ (w : Worked). option_copied c.least_pay.result ≡ slice_get (pay_order w.rows) c.args.rank) c.self.view_is c.least_pay.ensures.item

pub returns-clause-row : goal.returns-clause-row
returns-clause-row c = subst (λ (w : Worked). IfSome c.least_pay.result (λ row. find (has_hash row.now.hash) w.rows ≡ Some row.now)) c.self.view_is c.least_pay.ensures.row
