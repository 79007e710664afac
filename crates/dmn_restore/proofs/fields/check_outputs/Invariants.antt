use Rattle.std.proofs.Common.{take}
use Rattle.std.specs.List.{All}
use Rattle.dmn_restore.specs.Formed.{HasFormedPay}
use Rattle.dmn_restore.proofs.fields.check_outputs.Given as goal

abbrev pub invariant-loop-place : goal.invariant-loop-place
invariant-loop-place l = All HasFormedPay (take l.place l.outputs)
