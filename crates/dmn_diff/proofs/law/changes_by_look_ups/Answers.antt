use Rattle.dmn_diff.proofs.Steps.{deleted_by_look_up, told_by_look_up}
use Rattle.dmn_diff.proofs.law.changes_by_look_ups.Goals as goal

pub returns : goal.returns
returns c = record { deleted = deleted_by_look_up; entries = told_by_look_up }
