use Rattle.std.proofs.Common.{ℕ, ◌<◌, ◌≤◌, length, get_or}
use Rattle.dmn_versions.specs.declared.node.Root.{Root}
use Rattle.dmn_walk.specs.Copy.{IsMarked, Marks}
use Rattle.dmn_walk.proofs.compaction.mark_all.Given as goal

abbrev pub invariant-loop-root : goal.invariant-loop-root
invariant-loop-root g l =
    Marks g.K.Key.cmp l.arena.nodes.items l.marks.items (length l.arena.nodes.items) × ((k : ℕ) (d : Root) → k < l.root-index → IsMarked l.marks.items (get_or l.roots k d).0)

abbrev pub invariant-loop-number : goal.invariant-loop-number
invariant-loop-number g l =
    (l.number ≤ length l.arena.nodes.items) × Marks g.K.Key.cmp l.arena.nodes.items l.marks.items l.number × ((k : ℕ) (d : Root) → k < length l.roots → IsMarked l.marks.items (get_or l.roots k d).0)

abbrev pub decreases-loop-number : goal.decreases-loop-number
decreases-loop-number g l = l.number
