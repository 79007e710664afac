use Rattle.std.proofs.Common.{◌≡◌, length}
use Rattle.dmn_merkle.specs.Defs.{above}
use Rattle.dmn_merkle.proofs.Halving.{halved}
use Rattle.dmn_merkle.proofs.halves.halve.Given as goal

abbrev pub invariant-loop-i : goal.invariant-loop-i
invariant-loop-i l = record {
  counted : length l.level.items ≡ l.count;
  so_far : halved l.i l.level.items ≡ above l.fn.level.items;
}
