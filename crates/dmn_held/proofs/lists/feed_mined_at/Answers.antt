use Rattle.dmn_bytes.proofs.Send.{sent_then}
use Rattle.dmn_held.specs.Lists.{mined_at}
use Rattle.dmn_held.proofs.lists.feed_mined_at.Goals as goal

pub returns : goal.returns
unfolding mined_at
returns g c = sent_then c.feed.ensures c.feed-2.ensures
