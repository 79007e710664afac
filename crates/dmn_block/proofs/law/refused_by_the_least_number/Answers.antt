use Rattle.dmn_block.proofs.Numbers.{shape_tells_least}
use Rattle.dmn_block.proofs.law.refused_by_the_least_number.Goals as goal

pub returns : goal.returns
returns c = shape_tells_least
