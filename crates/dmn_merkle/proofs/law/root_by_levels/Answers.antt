use Rattle.dmn_merkle.proofs.Levels.{root_of_none, root_of_one, root_above}
use Rattle.dmn_merkle.proofs.law.root_by_levels.Goals as goal

pub returns : goal.returns
returns c = record { none = root_of_none; one = root_of_one; more = root_above }
