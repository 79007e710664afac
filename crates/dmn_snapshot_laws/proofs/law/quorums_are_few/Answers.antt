use Rattle.dmn_snapshot_laws.proofs.Few.{quorums_few as law}
use Rattle.dmn_snapshot_laws.proofs.law.quorums_are_few.Goals as goal

pub returns : goal.returns
returns c = law
