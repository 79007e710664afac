use Rattle.dmn_journal.proofs.Texts.{made_is_a_journal as made}
use Rattle.dmn_journal.proofs.laws.made_is_a_journal.Goals as goal

pub returns : goal.returns
returns c = made
