use Rattle.std.proofs.Common.{◌≡◌, ℕ, ◌<◌, false}
use Rattle.std.specs.List.{slice_index}
use Rattle.dmn_branch.specs.Compact.{is_overgrown}
use Rattle.dmn_branch.proofs.compaction.is_due.Given as goal

abbrev pub invariant-loop-tree : goal.invariant-loop-tree
invariant-loop-tree l = (k : ℕ) → k < l.tree → is_overgrown (slice_index l.nodes k) (slice_index l.after k) ≡ false
