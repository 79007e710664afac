use Rattle.dmn_bytes.proofs.Read.{sized_gives}
use Rattle.dmn_bytes.specs.Format.{ascending, only}
use Rattle.dmn_bytes.specs.Points.{out_point, point_cmp}
use Rattle.dmn_rows.specs.declared.limits.TheConstants.{MOST_OUTPUTS}
use Rattle.dmn_held.specs.Lists.{count_to, points_field}
use Rattle.dmn_held.proofs.lists.read_points.Goals as goal

pub returns : goal.returns
unfolding points_field
returns c = sized_gives (count_to MOST_OUTPUTS) (ascending point_cmp (λ p. p) out_point (λ p. only p)) _ _ _ c.in_ok-count.count _ c.in_ok-count.ensures.0 c.in_ok-count.ensures.1 (rw c.from.ensures at c.read_ascending.ensures)
