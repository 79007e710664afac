use Rattle.std.proofs.Common.{◌≡◌, ◌+◌, length, arith}
use Rattle.dmn_bytes.proofs.Send.{sent_as, sent_then}
use Rattle.dmn_desk.specs.Framed.{quorums_body}
use Rattle.dmn_desk.proofs.Sending.{quorums_framed, quorums_length}
use Rattle.dmn_desk.proofs.quorums.feed_quorums.Goals as goal

pub overflow_add-text_length : goal.overflow_add-text_length
overflow_add-text_length g c = omega (arith, c.text_length.ensures, c.requires.body, quorums_length c.args.commitments.now)

pub returns : goal.returns
unfolding quorums_body
returns g c =
    let quorums = c.args.commitments.now in
    let long : length (quorums_body quorums) ≡ 2 + c.text_length.result = omega (arith, c.text_length.ensures, c.requires.body, quorums_length quorums) in
    sent_as (quorums_framed (2 + c.text_length.result) quorums long) (sent_then c.put.ensures (sent_then c.feed_count.ensures (sent_then c.feed.ensures c.feed_many.ensures)))
