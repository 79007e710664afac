use Rattle.std.proofs.Common.{◌≡◌, length}
use Rattle.dmn_merkle.specs.OnePass.{added}
use Rattle.dmn_merkle.proofs.Waiting.{adding}
use Rattle.dmn_merkle.proofs.builder.add.Given as goal

abbrev pub invariant-loop-i : goal.invariant-loop-i
invariant-loop-i l = record {
  kept : length l.waiting ≡ l.i-end;
  so_far : adding l.i l.carry l.waiting ≡ added l.fn.hash l.fn.waiting;
}
