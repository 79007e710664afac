use Rattle.dmn_bytes.proofs.Send.{sent_then}
use Rattle.dmn_held.specs.Snapshot.{snapshot}
use Rattle.dmn_held.proofs.snapshot.feed_snapshot.Goals as goal

pub returns-clause-sent : goal.returns-clause-sent
unfolding snapshot
returns-clause-sent g c =
    sent_then c.feed.ensures (sent_then c.feed-2.ensures (sent_then c.feed-3.ensures (sent_then c.feed_rows.ensures (sent_then c.feed_outputs.ensures (sent_then c.feed_mined.ensures (sent_then c.in_ok-feed_part_if.ensures.sent (rw c.as_slice.ensures at c.in_ok-feed_heights.ensures.sent)))))))
