use Rattle.dmn_bytes.proofs.Send.{sent_then}
use Rattle.dmn_held.specs.Height.{height_data}
use Rattle.dmn_held.proofs.height.feed_height.Goals as goal

pub returns-clause-sent : goal.returns-clause-sent
unfolding height_data
returns-clause-sent g c =
    sent_then c.feed.ensures (sent_then c.in_ok-feed_part.ensures.sent (sent_then c.feed_rows.ensures (sent_then c.feed_hashes.ensures (sent_then c.feed_outputs.ensures (sent_then c.feed_points.ensures c.feed_commitments.ensures)))))
