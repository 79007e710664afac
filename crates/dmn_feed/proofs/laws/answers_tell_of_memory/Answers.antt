use Rattle.dmn_feed.proofs.Telling.{answers_tell_of_memory as law}
use Rattle.dmn_feed.proofs.laws.answers_tell_of_memory.Goals as goal

pub returns : goal.returns
returns c = law
