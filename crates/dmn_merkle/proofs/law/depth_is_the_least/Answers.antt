use Rattle.dmn_merkle.proofs.Judged.{depth_is}
use Rattle.dmn_merkle.proofs.law.depth_is_the_least.Goals as goal

pub returns : goal.returns
returns c = depth_is
