use Rattle.std.proofs.Common.{◌≡◌, ◌++◌, drop}
use Rattle.dmn_quorums.specs.Duty.{all_active}
use Rattle.dmn_quorums.proofs.mined.Mined.all_active.Given as goal

abbrev pub invariant-loop-quorum : goal.invariant-loop-quorum
invariant-loop-quorum l = l.all.items ++ all_active l.self (drop l.quorum-index l.quorums) l.height ≡ all_active l.self l.quorums l.height
