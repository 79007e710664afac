use Rattle.std.proofs.Common.{ap, sym}
use Rattle.std.specs.Prelude.{None}
use Rattle.std.specs.Int.{w32, to_le_bytes}
use Rattle.dmn_bytes.proofs.Send.{sent_then, sent_as}
use Rattle.dmn_bytes.specs.Format.{hash}
use Rattle.dmn_bytes.specs.Points.{hash_cmp}
use Rattle.dmn_held.specs.Lists.{count_to, hashes_field}
use Rattle.dmn_held.proofs.Texts.{keys_text}
use Rattle.dmn_held.proofs.lists.feed_hashes.Goals as goal

pub returns : goal.returns
unfolding hashes_field count_to
returns g c =
    let count = sent_as (ap (λ n. to_le_bytes w32 n) c.len.ensures) c.feed_count.ensures in
    sent_then count (sent_as (sym (keys_text hash_cmp hash None c.args.hashes.now)) (rw c.as_slice.ensures at c.feed_many.ensures))
