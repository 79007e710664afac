use Rattle.std.proofs.Common.{◌≡◌, ◌++◌}
use Rattle.dmn_branch.proofs.from_data.add_all.Given as goal

abbrev pub invariant-loop-m : goal.invariant-loop-m
invariant-loop-m l =
    (goal.iterator-loop-m).can_next l.m-iterator
    × (l.mined ++ l.m-iterator.rest.items ≡ l.initial.mined ++ l.fn.more.items)
