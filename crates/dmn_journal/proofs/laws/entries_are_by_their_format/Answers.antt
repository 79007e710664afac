use Rattle.dmn_journal.proofs.Formats.{by_format}
use Rattle.dmn_journal.proofs.laws.entries_are_by_their_format.Goals as goal

pub returns : goal.returns
returns c = by_format
