use Rattle.dmn_head.proofs.Routing.{built}
use Rattle.dmn_head.proofs.target.build.Goals as goal

pub returns : goal.returns
returns c = built _ _ _ _ _ _ _ _ _ _ _ _ _ c.new-router.ensures c.in_ok-add.ensures c.in_ok-add-2.ensures c.in_ok-add-3.ensures c.in_ok-add-4.ensures c.in_ok-add-5.ensures c.in_ok-add-6.ensures c.in_ok-add-7.ensures c.in_ok-add-8.ensures c.in_ok-add-9.ensures c.in_ok-add-10.ensures c.in_ok-add-11.ensures c.in_ok-add-12.ensures
