use Rattle.dmn_bytes.proofs.Send.{sent_then}
use Rattle.dmn_rows.specs.Start.{start_record, version_field, profile_field, first_field, hash_field}
use Rattle.dmn_rows.proofs.start.StartRecordText.feed.Goals as goal

pub returns : goal.returns
unfolding start_record version_field profile_field first_field hash_field
returns g c = sent_then c.feed.ensures (sent_then c.feed-2.ensures (sent_then c.feed-3.ensures (sent_then c.feed-4.ensures c.feed_outputs.ensures)))
