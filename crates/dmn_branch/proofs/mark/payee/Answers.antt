use Rattle.std.proofs.Common.{ap, sym, ◌∙◌}
use Rattle.std.specs.Option.{option_map}
use Rattle.dmn_rows.specs.declared.row.MnRow.{MnRow}
use Rattle.dmn_standing.proofs.Turns.{payee_in_order}
use Rattle.dmn_branch.proofs.mark.payee.Goals as goal

pub returns-in-Some : goal.returns-in-Some
returns-in-Some c = ap (option_map (λ (row : MnRow). row.hash)) c.in-Some.ensures.item ∙ sym (payee_in_order c.args.list.now.rows)

pub returns-in-None : goal.returns-in-None
returns-in-None c = ap (option_map (λ (row : MnRow). row.hash)) c.in-None.ensures.item ∙ sym (payee_in_order c.args.list.now.rows)
