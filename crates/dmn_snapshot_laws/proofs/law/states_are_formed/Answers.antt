use Rattle.dmn_snapshot_laws.proofs.States.{states_formed}
use Rattle.dmn_snapshot_laws.proofs.law.states_are_formed.Goals as goal

pub returns : goal.returns
returns c = states_formed
