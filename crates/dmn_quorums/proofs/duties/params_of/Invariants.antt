use Rattle.std.proofs.Common.{◌≡◌, drop}
use Rattle.dmn_quorums.specs.Duty.{params_of}
use Rattle.dmn_quorums.proofs.duties.params_of.Given as goal

abbrev pub invariant-loop-quorum : goal.invariant-loop-quorum
invariant-loop-quorum l = params_of (drop l.quorum-index l.quorums) l.kind ≡ params_of l.quorums l.kind
