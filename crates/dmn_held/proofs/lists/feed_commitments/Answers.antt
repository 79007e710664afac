use Rattle.std.proofs.Common.{ap}
use Rattle.std.specs.Int.{w32, to_le_bytes}
use Rattle.dmn_bytes.proofs.Send.{sent_then, sent_as}
use Rattle.dmn_held.specs.Lists.{commitments_field}
use Rattle.dmn_held.proofs.lists.feed_commitments.Goals as goal

pub returns : goal.returns
unfolding commitments_field
returns g c =
    let count = sent_as (ap (λ n. to_le_bytes w32 n) c.len.ensures) c.feed_count.ensures in
    sent_then count ((rw c.as_slice.ensures at c.feed_many.ensures))
