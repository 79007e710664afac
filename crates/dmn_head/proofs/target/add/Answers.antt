use Rattle.dmn_head.proofs.Routing.{added_if_ok}
use Rattle.dmn_head.proofs.target.add.Goals as goal

pub returns : goal.returns
returns c = added_if_ok c.insert.result c.args.route.now c.args.target c.args.router.now c.insert.new.self c.insert.ensures
