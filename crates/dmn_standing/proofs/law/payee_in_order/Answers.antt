use Rattle.dmn_standing.proofs.Turns.{payee_in_order}
use Rattle.dmn_standing.proofs.law.payee_in_order.Goals as goal

pub returns : goal.returns
returns c = payee_in_order
