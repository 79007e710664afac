use Rattle.std.proofs.Common.{◌≡◌, ◌++◌, drop}
use Rattle.dmn_branch.specs.Drawn.{kinds_asked}
use Rattle.dmn_branch.proofs.drawn.kinds_asked.Given as goal

abbrev pub invariant-loop-tx : goal.invariant-loop-tx
invariant-loop-tx l = l.kinds.items ++ kinds_asked (drop l.tx-index l.txs) ≡ kinds_asked l.txs
