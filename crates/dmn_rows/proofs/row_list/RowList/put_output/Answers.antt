use Rattle.std.proofs.Common.{sym, ap}
use Rattle.dmn_rows.specs.Rows.{Outputs}
use Rattle.dmn_rows.proofs.row_list.RowList.put_output.Goals as goal

pub returns-clause-ok : goal.returns-clause-ok
returns-clause-ok c = rw (sym c.self.view_is) (ap (λ (l : Outputs). record { rows = c.self.inside.rows.items; outputs = l }) c.in_ok-add_sorted.ensures.add)
