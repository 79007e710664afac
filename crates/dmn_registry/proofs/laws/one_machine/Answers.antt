use Rattle.dmn_registry.proofs.Once.{journal_once}
use Rattle.dmn_registry.proofs.laws.one_machine.Goals as goal

pub returns : goal.returns
returns c = journal_once
