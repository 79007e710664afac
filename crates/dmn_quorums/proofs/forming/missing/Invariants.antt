use Rattle.std.proofs.Common.{◌≡◌, drop}
use Rattle.dmn_quorums.specs.Forming.{missing}
use Rattle.dmn_quorums.proofs.forming.missing.Given as goal

abbrev pub invariant-loop-forming : goal.invariant-loop-forming
invariant-loop-forming l = missing (drop l.forming-index l.formings) l.kinds ≡ missing l.formings l.kinds
