use Rattle.std.proofs.Common.{ap}
use Rattle.dmn_bytes.specs.Format.{compact, filled}
use Rattle.dmn_bytes.proofs.Send.{sent_then, sent_as}
use Rattle.dmn_held.specs.Coinbase.{behind_size, coinbase_part}
use Rattle.dmn_held.proofs.coinbase.feed_sized.Goals as goal

pub returns : goal.returns
unfolding coinbase_part behind_size filled
returns g c = sent_then (sent_as (ap compact.text c.requires) c.feed_compact.ensures) (sent_then c.feed.ensures c.feed-2.ensures)
