use Rattle.dmn_slots.proofs.Newest.{next_bounds}
use Rattle.dmn_slots.proofs.law.next_keeps_bounds.Goals as goal

pub returns : goal.returns
returns c = next_bounds
