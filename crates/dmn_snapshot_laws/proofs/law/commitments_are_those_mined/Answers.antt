use Rattle.dmn_snapshot_laws.proofs.Matching.{those_mined}
use Rattle.dmn_snapshot_laws.proofs.law.commitments_are_those_mined.Goals as goal

pub returns : goal.returns
returns c = those_mined
