use Rattle.std.proofs.Common.{◌≡◌, ◌-◌, ◌++◌, map}
use Rattle.std.specs.List.{range_with_len}
use Rattle.dmn_generator.specs.Masternodes.{masternode}
use Rattle.dmn_generator.proofs.blocks.put_masternodes.Given as goal

-- what was added, with what is still to come
abbrev pub invariant-loop-i : goal.invariant-loop-i
invariant-loop-i l = l.txs.items ++ map masternode (range_with_len l.i (l.to - l.i)) ≡ l.fn.txs.items ++ map masternode (range_with_len l.from (l.to - l.from))
