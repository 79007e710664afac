use Rattle.dmn_journal.proofs.Unique.{commands_once as once}
use Rattle.dmn_journal.proofs.laws.commands_once.Goals as goal

pub returns : goal.returns
returns c = once
