use Rattle.std.proofs.Common.{◌≡◌, ◌++◌}
use Rattle.dmn_quorums.proofs.mined.put_all_mined.Given as goal

abbrev pub invariant-loop-m : goal.invariant-loop-m
invariant-loop-m l =
    (goal.iterator-loop-m).can_next l.m-iterator
    × (l.list.items ++ l.m-iterator.rest.items ≡ l.initial.list.items ++ l.fn.more.items)
