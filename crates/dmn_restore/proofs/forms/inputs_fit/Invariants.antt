use Rattle.std.proofs.Common.{take}
use Rattle.std.specs.List.{All}
use Rattle.dmn_tx.specs.Tx.{tx_in}
use Rattle.dmn_restore.proofs.forms.inputs_fit.Given as goal

abbrev pub invariant-loop-place : goal.invariant-loop-place
invariant-loop-place l = All tx_in.Fits (take l.place l.inputs)
