use Rattle.std.proofs.Common.{◌+◌, ◌*◌, arith, length}
use Rattle.dmn_bytes.proofs.Send.{sent_as, sent_then}
use Rattle.dmn_desk.specs.Framed.{list_body}
use Rattle.dmn_desk.proofs.Listing.{body_length, list_framed}
use Rattle.dmn_desk.proofs.list.feed_list.Goals as goal

pub returns-clause-text : goal.returns-clause-text
unfolding list_body
returns-clause-text g c =
    let long = body_length c.args.height c.args.hash.now c.args.root.now c.args.entries.now c.hash_length.ensures c.hash_length-2.ensures c.entry_lengths.ensures in
    let fields = sent_then (sent_then (sent_then (sent_then c.feed.ensures c.feed-2.ensures) c.feed-3.ensures) c.feed_count-2.ensures) c.feed_many.ensures in
    sent_as (list_framed (72 + 151 * length c.args.entries.now) c.args.height c.args.hash.now c.args.root.now c.args.entries.now long) (sent_then c.put.ensures (sent_then c.feed_count.ensures fields))

pub returns-clause-fits : goal.returns-clause-fits
returns-clause-fits g c = omega (arith, c.requires, body_length c.args.height c.args.hash.now c.args.root.now c.args.entries.now c.hash_length.ensures c.hash_length-2.ensures c.entry_lengths.ensures)
