use Rattle.std.proofs.Common.{[]}
use Rattle.dmn_held.proofs.Sized.{is_length}
use Rattle.dmn_held.proofs.counter.length_of.Goals as goal

pub returns : goal.returns
returns g c = is_length c.total.result _ (g.T.Text.format.text c.args.value.now) (c.feed.ensures.behind [] (λ _. c.new-counter.ensures.count)) c.total.ensures
