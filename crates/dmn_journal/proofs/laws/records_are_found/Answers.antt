use Rattle.dmn_journal.proofs.Found.{record_found}
use Rattle.dmn_journal.proofs.laws.records_are_found.Goals as goal

pub returns : goal.returns
returns c = record_found
