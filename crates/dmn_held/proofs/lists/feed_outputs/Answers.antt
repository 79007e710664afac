use Rattle.std.proofs.Common.{ap, sym, length}
use Rattle.std.specs.Int.{w32, to_le_bytes}
use Rattle.dmn_bytes.proofs.Send.{sent_then, sent_as}
use Rattle.dmn_bytes.specs.Points.{out_point, point_cmp}
use Rattle.dmn_bytes.proofs.Series.{ascending_text}
use Rattle.dmn_rows.specs.Start.{point_of, behind_point, start_output, count_field, outputs_field}
use Rattle.dmn_held.proofs.lists.feed_outputs.Goals as goal

pub returns : goal.returns
unfolding outputs_field count_field start_output
returns g c =
    let count = sent_as (ap (λ n. to_le_bytes w32 n) c.len.ensures) c.feed_count.ensures in
    sent_then count (sent_as (sym (ascending_text point_cmp point_of out_point behind_point (length c.args.outputs.now) c.args.outputs.now)) (rw c.as_slice.ensures at c.feed_many.ensures))
