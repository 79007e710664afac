use Rattle.std.proofs.Common.{◌≡◌, ◌≤◌, None}
use Rattle.dmn_block.specs.Shape.{least, is_second_coinbase}
use Rattle.dmn_block.proofs.shape.second_coinbase.Given as goal

abbrev pub invariant-loop-place : goal.invariant-loop-place
invariant-loop-place l = record {
  none : least l.place (is_second_coinbase l.txs) ≡ None;
  low : 1 ≤ l.place;
}
