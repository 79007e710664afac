use Rattle.dmn_snapshot.proofs.Gates.{bounds_of, stored_in}
use Rattle.dmn_snapshot.proofs.law.slots_keep_bounds.Goals as goal

pub returns-clause-stored : goal.returns-clause-stored
returns-clause-stored c = λ file stored bytes is. stored_in file stored bytes is

pub returns-clause-bounds : goal.returns-clause-bounds
returns-clause-bounds c = λ file stored bytes is. bounds_of stored (stored_in file stored bytes is)
