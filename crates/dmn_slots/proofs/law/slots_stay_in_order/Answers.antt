use Rattle.dmn_slots.proofs.Newest.{order_stays}
use Rattle.dmn_slots.proofs.law.slots_stay_in_order.Goals as goal

pub returns : goal.returns
returns c = order_stays
