use Rattle.dmn_branch.proofs.History.{state_of_tip}
use Rattle.dmn_branch.proofs.law.tip_is_at_its_height.Goals as goal

pub returns : goal.returns
returns c = state_of_tip
