use Rattle.std.proofs.Common.{take}
use Rattle.std.specs.List.{All}
use Rattle.dmn_tx.specs.Tx.{tx_out}
use Rattle.dmn_restore.proofs.forms.outputs_fit.Given as goal

abbrev pub invariant-loop-place : goal.invariant-loop-place
invariant-loop-place l = All tx_out.Fits (take l.place l.outputs)
