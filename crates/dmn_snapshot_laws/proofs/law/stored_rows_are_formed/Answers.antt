use Rattle.dmn_snapshot_laws.proofs.Pays.{stored_pays}
use Rattle.dmn_snapshot_laws.proofs.law.stored_rows_are_formed.Goals as goal

pub returns : goal.returns
returns c = stored_pays
