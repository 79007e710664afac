use Rattle.std.proofs.Common.{◌≡◌, ◌++◌}
use Rattle.dmn_quorums.proofs.mined.put_all.Given as goal

abbrev pub invariant-loop-commitment : goal.invariant-loop-commitment
invariant-loop-commitment l =
    (goal.iterator-loop-commitment).can_next l.commitment-iterator
    × (l.list.items ++ l.commitment-iterator.rest.items ≡ l.initial.list.items ++ l.fn.more.items)
