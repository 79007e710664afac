use Rattle.dmn_light_laws.proofs.Asked.{taken_as_asked}
use Rattle.dmn_light_laws.proofs.law.answered_diffs_are_taken.Goals as goal

pub returns : goal.returns
returns c = taken_as_asked
