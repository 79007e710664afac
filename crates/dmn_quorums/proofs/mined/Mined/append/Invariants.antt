use Rattle.std.proofs.Common.{◌≡◌, ◌≤◌, ◌+◌, ◌++◌, length}
use Rattle.std.specs.Vec.{vec_len, vec_capacity}
use Rattle.dmn_quorums.specs.Duty.{mined_at}
use Rattle.dmn_quorums.proofs.mined.Mined.append.Given as goal

abbrev pub invariant-loop-commitment : goal.invariant-loop-commitment
invariant-loop-commitment l =
    (goal.iterator-loop-commitment).can_next l.commitment-iterator
    × (l.self-inside.items.items ++ mined_at l.height l.commitment-iterator.rest.items ≡ l.fn.self ++ mined_at l.height l.fn.commitments.items)
    × (vec_len l.self-inside.items + length l.commitment-iterator.rest.items ≤ vec_capacity l.self-inside.items)
