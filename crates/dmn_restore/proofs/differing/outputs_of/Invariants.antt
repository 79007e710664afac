use Rattle.std.proofs.Common.{◌≡◌, take}
use Rattle.dmn_indexes.specs.Version.{outputs_of}
use Rattle.dmn_restore.proofs.differing.outputs_of.Given as goal

abbrev pub invariant-loop-pair : goal.invariant-loop-pair
invariant-loop-pair l = l.outputs.items ≡ outputs_of (take l.pair-index l.pairs)
