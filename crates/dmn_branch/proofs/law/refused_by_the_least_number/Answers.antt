use Rattle.dmn_branch.proofs.Numbers.{hash_tells_least, last_tells_least}
use Rattle.dmn_branch.proofs.law.refused_by_the_least_number.Goals as goal

pub returns-clause-known : goal.returns-clause-known
returns-clause-known c = hash_tells_least

pub returns-clause-last : goal.returns-clause-last
returns-clause-last c = last_tells_least
