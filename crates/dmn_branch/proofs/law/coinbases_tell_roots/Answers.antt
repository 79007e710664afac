use Rattle.dmn_branch.proofs.History.{roots_told}
use Rattle.dmn_branch.proofs.law.coinbases_tell_roots.Goals as goal

pub returns : goal.returns
returns c = roots_told
