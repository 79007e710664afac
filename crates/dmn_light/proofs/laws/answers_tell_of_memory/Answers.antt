use Rattle.dmn_light.proofs.Telling.{answers_tell_of_memory}
use Rattle.dmn_light.proofs.laws.answers_tell_of_memory.Goals as goal

pub returns : goal.returns
returns c = answers_tell_of_memory
