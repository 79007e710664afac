use Rattle.dmn_outside.proofs.Crash.{calls_are_joined}
use Rattle.dmn_outside.proofs.laws.calls_join.Goals as goal

pub returns : goal.returns
returns c = calls_are_joined
