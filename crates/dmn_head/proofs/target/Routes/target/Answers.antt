use Rattle.dmn_head.proofs.Parts.{seeks_routed}
use Rattle.dmn_head.proofs.target.Routes.target.Goals as goal

pub returns : goal.returns
returns c = seeks_routed c.args.path.now c.seek.result c.seek.ensures
