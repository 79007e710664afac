use Rattle.std.proofs.Common.{◌≡◌, map, take}
use Rattle.dmn_branch.specs.Compact.{root_of}
use Rattle.dmn_branch.proofs.compaction.roots.Given as goal

abbrev pub invariant-loop-version : goal.invariant-loop-version
invariant-loop-version l = l.roots.items ≡ map (root_of l.tree) (take l.version-index l.versions)
