use Rattle.std.proofs.Common.{◌≡◌, ◌<◌, [], drop, length}
use Rattle.std.specs.Prelude.{option_to_list}
use Rattle.dmn_merkle.specs.OnePass.{finished}
use Rattle.dmn_merkle.proofs.builder.finish.Given as goal

abbrev pub invariant-loop-i : goal.invariant-loop-i
invariant-loop-i l = record {
  within : 0 < l.i → l.i < length l.waiting;
  so_far : finished (drop l.i l.waiting) (option_to_list l.carry) ≡ finished l.waiting [];
}
