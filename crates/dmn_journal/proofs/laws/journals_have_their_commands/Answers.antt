use Rattle.dmn_journal.proofs.Texts.{journals_have_commands}
use Rattle.dmn_journal.proofs.laws.journals_have_their_commands.Goals as goal

pub returns : goal.returns
returns c = journals_have_commands
