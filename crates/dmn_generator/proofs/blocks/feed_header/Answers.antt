use Rattle.dmn_block.specs.Body.{header}
use Rattle.dmn_bytes.proofs.Send.{sent_then}
use Rattle.dmn_generator.proofs.blocks.feed_header.Goals as goal

pub returns : goal.returns
unfolding header
returns g c = sent_then c.feed.ensures (sent_then c.feed-2.ensures (sent_then c.feed-3.ensures (sent_then c.feed-4.ensures (sent_then c.feed-5.ensures c.feed-6.ensures))))
