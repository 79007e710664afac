use Rattle.std.proofs.Common.{◌+◌, ◌*◌, arith, length}
use Rattle.dmn_bytes.proofs.Send.{sent_as, sent_then}
use Rattle.dmn_desk.specs.Framed.{hashes_body}
use Rattle.dmn_desk.proofs.Hashing.{hashes_framed, hashes_length}
use Rattle.dmn_desk.proofs.hashes.feed_hashes.Goals as goal

pub returns-clause-text : goal.returns-clause-text
unfolding hashes_body
returns-clause-text g c =
    let long = hashes_length c.args.hashes.now c.hash_lengths.ensures in
    sent_as (hashes_framed (2 + 32 * length c.args.hashes.now) c.args.hashes.now long) (sent_then c.put.ensures (sent_then c.feed_count.ensures (sent_then c.feed.ensures c.feed_many.ensures)))

pub returns-clause-fits : goal.returns-clause-fits
returns-clause-fits g c = omega (arith, c.requires, hashes_length c.args.hashes.now c.hash_lengths.ensures)
