use Rattle.dmn_bytes.proofs.Send.{sent_then}
use Rattle.dmn_payloads.specs.Commitments.{commitment}
use Rattle.dmn_payloads.proofs.commitment.CommitmentText.feed.Goals as goal

pub returns : goal.returns
unfolding commitment
returns g c = sent_then c.feed.ensures (sent_then c.feed-2.ensures (sent_then c.feed-3.ensures (sent_then c.feed-4.ensures (sent_then c.feed-5.ensures (sent_then c.feed-6.ensures (sent_then c.feed-7.ensures (sent_then c.feed-8.ensures (c.feed-9.ensures))))))))
