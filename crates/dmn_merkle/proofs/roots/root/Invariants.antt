use Rattle.std.proofs.Common.{◌≡◌, take}
use Rattle.dmn_merkle.specs.OnePass.{count_of, Holds}
use Rattle.dmn_merkle.proofs.roots.root.Given as goal

abbrev pub invariant-loop-leaf : goal.invariant-loop-leaf
invariant-loop-leaf l = record {
  held : Holds l.builder (take l.leaf-index l.leaves);
  counted : count_of l.builder ≡ l.leaf-index;
}
