use Rattle.dmn_slots.proofs.Images.{once_written, while_written}
use Rattle.dmn_slots.proofs.Keeping.{kept_with}
use Rattle.dmn_slots.proofs.Newest.{newest_stays}
use Rattle.dmn_slots.proofs.law.newest_slot_stays.Goals as goal

pub returns : goal.returns
returns c = newest_stays
