use Rattle.std.proofs.Common.{◌≡◌, None, Some, find, subst}
use Rattle.std.specs.Prelude.{IsTrue, IsNone, IfSome}
use Rattle.std.specs.Option.{option_copied}
use Rattle.dmn_rows.specs.Profile.{confirm_wait}
use Rattle.dmn_rows.specs.Rows.{has_hash}
use Rattle.dmn_rows.specs.Waiting.{is_due}
use Rattle.dmn_indexes.specs.Order.{unconfirmed_order, first_due}
use Rattle.dmn_indexes.specs.Working.{Worked}
use Rattle.dmn_indexes.proofs.working.Working.due.Goals as goal

pub returns-clause-first : goal.returns-clause-first
returns-clause-first c = subst (λ (w : Worked). option_copied c.due.result ≡ first_due c.args.height (unconfirmed_order w.rows)) c.self.view_is c.due.ensures.first

pub returns-clause-row : goal.returns-clause-row
returns-clause-row c = subst (λ (w : Worked). IfSome c.due.result (λ row. (find (has_hash row.now.hash) w.rows ≡ Some row.now) × IsTrue (is_due confirm_wait c.args.height row.now))) c.self.view_is c.due.ensures.row

pub returns-clause-none : goal.returns-clause-none
returns-clause-none c = subst (λ (w : Worked). IsNone c.due.result → find (is_due confirm_wait c.args.height) w.rows ≡ None) c.self.view_is c.due.ensures.none
