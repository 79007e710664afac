use Rattle.std.proofs.Common.{◌≡◌, ◌+◌, ◌≤◌, drop}
use Rattle.std.specs.Option.{option_map}
use Rattle.dmn_block.specs.Shape.{bad_verdict}
use Rattle.dmn_block.proofs.shape.bad_verdict.Given as goal

abbrev pub invariant-loop-place : goal.invariant-loop-place
invariant-loop-place l = record {
  left : bad_verdict l.count 0 l.verdicts ≡ option_map (λ k. l.place + k) (bad_verdict l.count l.from (drop l.place l.verdicts));
  above : l.place ≤ l.from;
  most : l.from ≤ l.count;
}
