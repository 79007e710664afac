use Rattle.std.proofs.Common.{take}
use Rattle.std.specs.List.{All}
use Rattle.dmn_restore.specs.Formed.{HasFormedPays}
use Rattle.dmn_restore.proofs.fields.check_rows.Given as goal

abbrev pub invariant-loop-place : goal.invariant-loop-place
invariant-loop-place l = All HasFormedPays (take l.place l.rows)
