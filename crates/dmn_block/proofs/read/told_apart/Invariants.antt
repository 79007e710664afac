use Rattle.std.proofs.Common.{◌≡◌, ◌++◌, map}
use Rattle.dmn_tx.specs.Defs.{id_of}
use Rattle.dmn_block.proofs.read.told_apart.Given as goal

abbrev pub invariant-loop-one : goal.invariant-loop-one
invariant-loop-one l = record {
  txs : l.txs.items ≡ l.yielded;
  ids : l.ids.items ≡ map id_of l.yielded;
  left : l.yielded ++ l.one-iterator.rest.items ≡ l.fn.read;
}
