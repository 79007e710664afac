use Rattle.std.proofs.Common.{◌≡◌, ◌++◌, drop, map}
use Rattle.dmn_tx.specs.Defs.{id_of}
use Rattle.dmn_generator.proofs.blocks.merkle_of.Given as goal

-- the ids so far, with those that are still to come
abbrev pub invariant-loop-tx : goal.invariant-loop-tx
invariant-loop-tx l = l.ids.items ++ map id_of (drop l.tx-index l.txs) ≡ map id_of l.txs
