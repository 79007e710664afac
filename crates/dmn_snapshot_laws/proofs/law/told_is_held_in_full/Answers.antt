use Rattle.dmn_snapshot_laws.proofs.Full.{holds_in_full}
use Rattle.dmn_snapshot_laws.proofs.law.told_is_held_in_full.Goals as goal

pub returns : goal.returns
returns c = holds_in_full
