use Rattle.dmn_bytes.proofs.Read.{sized_gives}
use Rattle.dmn_bytes.specs.Format.{ascending, hash, only}
use Rattle.dmn_bytes.specs.Points.{hash_cmp}
use Rattle.dmn_rows.specs.declared.limits.TheConstants.{MOST_MASTERNODES}
use Rattle.dmn_held.specs.Lists.{count_to, hashes_field}
use Rattle.dmn_held.proofs.lists.read_hashes.Goals as goal

pub returns : goal.returns
unfolding hashes_field
returns c = sized_gives (count_to MOST_MASTERNODES) (ascending hash_cmp (λ h. h) hash (λ h. only h)) _ _ _ c.in_ok-count.count _ c.in_ok-count.ensures.0 c.in_ok-count.ensures.1 (rw c.from.ensures at c.read_ascending.ensures)
