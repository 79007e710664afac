use Rattle.std.proofs.Common.{◌≡◌, length, arith}
use Rattle.dmn_bytes.proofs.Send.{sent_as, sent_then}
use Rattle.dmn_diff.specs.Defs.{diff_text}
use Rattle.dmn_desk.proofs.Diffing.{text_framed}
use Rattle.dmn_desk.proofs.diff.feed_diff.Goals as goal

pub returns : goal.returns
returns g c =
    let text = diff_text c.args.diff.now in
    let long : length text ≡ c.length_of.result = omega (arith, c.length_of.ensures, c.requires) in
    sent_as (text_framed c.length_of.result text long) (sent_then c.put.ensures (sent_then c.feed_count.ensures c.feed.ensures))
