use Rattle.dmn_snapshot.proofs.Gates.{open_is}
use Rattle.dmn_snapshot.proofs.law.written_slots_are_valid.Goals as goal

pub returns : goal.returns
returns c = open_is
