use Rattle.dmn_bytes.proofs.Read.{sized_gives}
use Rattle.std.specs.Prelude.{None}
use Rattle.dmn_bytes.specs.Format.{last_key, series}
use Rattle.dmn_rows.specs.declared.limits.TheConstants.{MOST_MASTERNODES}
use Rattle.dmn_held.specs.Lists.{count_to, hash_of, next_row, rows_field}
use Rattle.dmn_held.proofs.lists.read_rows.Goals as goal

pub returns : goal.returns
unfolding rows_field
returns c = sized_gives (count_to MOST_MASTERNODES) (series next_row (last_key hash_of) None) _ _ _ c.in_ok-count.count _ c.in_ok-count.ensures.0 c.in_ok-count.ensures.1 (rw c.from.ensures at c.read_ordered.ensures)
