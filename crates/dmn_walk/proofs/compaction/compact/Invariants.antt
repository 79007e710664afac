use Rattle.std.proofs.Common.{◌≡◌, ℕ, ◌<◌, length, get_or}
use Rattle.dmn_versions.specs.declared.node.Root.{Root}
use Rattle.dmn_walk.specs.Copy.{Copied}
use Rattle.dmn_walk.proofs.compaction.compact.Given as goal

abbrev pub invariant-loop-root : goal.invariant-loop-root
invariant-loop-root g l =
    (length l.moved.items ≡ l.root-index) × ((k : ℕ) (d e : Root) → k < l.root-index → Copied g.K.Key.cmp l.arena.nodes.items l.new.nodes.items (get_or l.roots k d).0 (get_or l.moved.items k e).0)
