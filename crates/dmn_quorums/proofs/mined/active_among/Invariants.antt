use Rattle.std.proofs.Common.{◌≡◌, ◌++◌, drop, filter}
use Rattle.dmn_quorums.specs.Duty.{active_at, is_of}
use Rattle.dmn_quorums.proofs.mined.active_among.Given as goal

abbrev pub invariant-loop-m : goal.invariant-loop-m
invariant-loop-m l =
    l.active.items ++ drop l.left (filter (is_of l.fn.params l.fn.height) (drop l.m-index l.items))
    ≡ active_at l.items l.fn.params l.fn.height
