use Rattle.dmn_slots.proofs.Newest.{next_is_newest}
use Rattle.dmn_slots.proofs.law.next_slot_is_newest.Goals as goal

pub returns : goal.returns
returns c = next_is_newest
