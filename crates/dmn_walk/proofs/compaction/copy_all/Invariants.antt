use Rattle.dmn_walk.specs.Copy.{Copies}
use Rattle.dmn_walk.proofs.compaction.copy_all.Given as goal

abbrev pub invariant-loop-number : goal.invariant-loop-number
invariant-loop-number g l = Copies g.K.Key.cmp l.arena.nodes.items l.new.nodes.items l.marks.items l.places.items l.number
