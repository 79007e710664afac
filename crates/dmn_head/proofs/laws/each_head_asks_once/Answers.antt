use Rattle.dmn_head.proofs.Once.{head_once}
use Rattle.dmn_head.proofs.laws.each_head_asks_once.Goals as goal

pub returns : goal.returns
returns c = head_once
