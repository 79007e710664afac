use Rattle.std.proofs.Common.{◌≡◌, drop}
use Rattle.dmn_rows.specs.Ranked.{lesser_of, least}
use Rattle.dmn_standing.specs.Dues.{due_cmp, dues}
use Rattle.dmn_standing.proofs.payment.payee.Given as goal

abbrev pub invariant-loop-row : goal.invariant-loop-row
invariant-loop-row l = lesser_of due_cmp l.first (least due_cmp (dues (drop l.row-index l.fn.rows.rows))) ≡ least due_cmp (dues l.fn.rows.rows)
