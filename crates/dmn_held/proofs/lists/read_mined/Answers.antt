use Rattle.dmn_bytes.proofs.Read.{sized_gives}
use Rattle.std.specs.Int.{w32}
use Rattle.dmn_bytes.specs.Format.{many, number}
use Rattle.dmn_held.specs.Lists.{mined_at, mined_field}
use Rattle.dmn_held.proofs.lists.read_mined.Goals as goal

pub returns : goal.returns
unfolding mined_field
returns c = sized_gives (number w32) (λ n. many n mined_at) _ _ _ c.in_ok-count.count _ c.in_ok-count.ensures.reads.0 c.in_ok-count.ensures.reads.1 (rw c.from.ensures at c.read_each_mined.ensures)
