use Rattle.dmn_bytes.specs.Format.{ascending}
use Rattle.dmn_bytes.specs.Points.{out_point, point_cmp}
use Rattle.dmn_bytes.proofs.Read.{sized_gives}
use Rattle.dmn_rows.specs.Start.{behind_point, count_field, outputs_field, point_of}
use Rattle.dmn_held.specs.Lists.{count_to}
use Rattle.dmn_held.proofs.lists.read_outputs.Goals as goal

pub returns : goal.returns
unfolding outputs_field count_field count_to
returns c = sized_gives count_field (ascending point_cmp point_of out_point behind_point) _ _ _ c.in_ok-count.count _ c.in_ok-count.ensures.0 c.in_ok-count.ensures.1 (rw c.from.ensures at c.read_ascending.ensures)
