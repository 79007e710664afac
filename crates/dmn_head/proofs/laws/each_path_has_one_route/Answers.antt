use Rattle.dmn_head.proofs.Parts.{routed_once}
use Rattle.dmn_head.proofs.laws.each_path_has_one_route.Goals as goal

pub returns : goal.returns
returns c = routed_once
