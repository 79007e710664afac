use Rattle.dmn_journal.proofs.Found.{other_closed}
use Rattle.dmn_journal.proofs.laws.others_are_closed.Goals as goal

pub returns : goal.returns
returns c = other_closed
