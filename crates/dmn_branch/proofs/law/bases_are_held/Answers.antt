use Rattle.dmn_branch.proofs.Drawing.{base_held}
use Rattle.dmn_branch.proofs.Starting.{bases}
use Rattle.dmn_branch.proofs.law.bases_are_held.Goals as goal

pub returns-clause-held : goal.returns-clause-held
returns-clause-held c = base_held

pub returns-clause-profiles : goal.returns-clause-profiles
returns-clause-profiles c = bases
