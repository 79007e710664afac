use Rattle.dmn_snapshot_laws.proofs.Mining.{mined_once}
use Rattle.dmn_snapshot_laws.proofs.law.each_type_is_mined_once.Goals as goal

pub returns : goal.returns
returns c = mined_once
