use Rattle.dmn_bytes.proofs.Send.{sent_then}
use Rattle.dmn_held.specs.Row.{stored_row}
use Rattle.dmn_held.proofs.row.feed_row.Goals as goal

pub returns : goal.returns
unfolding stored_row
returns g c = sent_then c.feed.ensures (sent_then c.feed-2.ensures (sent_then c.feed-3.ensures (sent_then c.feed-4.ensures (sent_then c.feed-5.ensures (sent_then c.feed-6.ensures (sent_then c.feed-7.ensures (sent_then c.feed-8.ensures (sent_then c.feed-9.ensures (sent_then c.feed-10.ensures (sent_then c.feed-11.ensures (sent_then c.feed-12.ensures (sent_then c.feed-13.ensures (sent_then c.feed-14.ensures (sent_then c.feed-15.ensures (sent_then c.feed-16.ensures (sent_then c.feed-17.ensures c.feed-18.ensures))))))))))))))))
