use Rattle.std.proofs.Common.{sym}
use Rattle.std.proofs.lemmas.List.{append-nil}
use Rattle.dmn_bytes.specs.Format.{compact}
use Rattle.dmn_bytes.proofs.Send.{sent_then, sent_as}
use Rattle.dmn_held.specs.Coinbase.{behind_size_if, no_part, part_if}
use Rattle.dmn_held.proofs.coinbase.feed_no_part.Goals as goal

pub returns : goal.returns
unfolding part_if behind_size_if no_part
returns g c = sent_then c.feed_compact.ensures (sent_then c.feed.ensures (sent_then c.feed_compact-2.ensures (sent_as (sym (append-nil (compact.text 0))) c.feed_compact-3.ensures)))
