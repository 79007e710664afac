use Rattle.std.proofs.Common.{take}
use Rattle.std.specs.List.{All}
use Rattle.dmn_held.specs.Row.{stored_row}
use Rattle.dmn_restore.specs.Formed.{HasFormedPays}
use Rattle.dmn_restore.proofs.fields.rows_fit.Given as goal

abbrev pub invariant-loop-place : goal.invariant-loop-place
invariant-loop-place l = All HasFormedPays l.rows → All stored_row.Fits (take l.place l.rows)
