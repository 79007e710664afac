use Rattle.dmn_registry.proofs.Once.{journal_departs_nowhere}
use Rattle.dmn_registry.proofs.laws.journals_depart_nowhere.Goals as goal

pub returns : goal.returns
returns c = journal_departs_nowhere
