use Rattle.std.proofs.Common.{◌≡◌, ◌++◌, drop, length, map}
use Rattle.dmn_generator.specs.Commitments.{commitment_tx, due_of, verdicts_from}
use Rattle.dmn_generator.proofs.blocks.put_commitments.Given as goal

-- what was added, with what is still to come
abbrev pub invariant-loop-forming : goal.invariant-loop-forming
invariant-loop-forming l = record {
  txs : l.txs.items ++ map (commitment_tx l.height) (due_of (drop l.forming-index l.formings)) ≡ l.fn.txs.items ++ map (commitment_tx l.height) (due_of l.formings);
  verdicts : l.verdicts.items ++ verdicts_from (length l.txs.items) l.height (due_of (drop l.forming-index l.formings)) ≡ l.fn.verdicts.items ++ verdicts_from (length l.fn.txs.items) l.height (due_of l.formings);
}
