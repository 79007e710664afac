use Rattle.dmn_branch.proofs.Replaying.{back_again, top_stays}
use Rattle.dmn_branch.proofs.law.taken_back_as_before.Goals as goal

pub returns-clause-states : goal.returns-clause-states
returns-clause-states c = back_again

pub returns-clause-top : goal.returns-clause-top
returns-clause-top c = top_stays
