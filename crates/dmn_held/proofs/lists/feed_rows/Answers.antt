use Rattle.std.proofs.Common.{ap, sym}
use Rattle.std.specs.Prelude.{None}
use Rattle.std.specs.Int.{w32, to_le_bytes}
use Rattle.dmn_bytes.proofs.Send.{sent_then, sent_as}
use Rattle.dmn_held.specs.Lists.{count_to, rows_field}
use Rattle.dmn_held.proofs.Texts.{rows_text}
use Rattle.dmn_held.proofs.lists.feed_rows.Goals as goal

pub returns : goal.returns
unfolding rows_field count_to
returns g c =
    let count = sent_as (ap (λ n. to_le_bytes w32 n) c.len.ensures) c.feed_count.ensures in
    sent_then count (sent_as (sym (rows_text None c.args.rows.now)) (rw c.as_slice.ensures at c.feed_each_row.ensures))
