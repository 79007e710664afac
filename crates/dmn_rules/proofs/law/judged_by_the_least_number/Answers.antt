use Rattle.dmn_rules.proofs.Least.{judge_tells_least}
use Rattle.dmn_rules.proofs.law.judged_by_the_least_number.Goals as goal

pub returns : goal.returns
returns c = judge_tells_least
