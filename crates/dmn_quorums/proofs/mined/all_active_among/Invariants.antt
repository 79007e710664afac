use Rattle.std.proofs.Common.{◌≡◌, ◌++◌, drop}
use Rattle.dmn_quorums.specs.Duty.{all_active_at}
use Rattle.dmn_quorums.proofs.mined.all_active_among.Given as goal

abbrev pub invariant-loop-quorum : goal.invariant-loop-quorum
invariant-loop-quorum l = l.all.items ++ all_active_at l.items (drop l.quorum-index l.quorums) l.height ≡ all_active_at l.items l.quorums l.height
