use Rattle.std.specs.List.{All}
use Rattle.std.specs.Ordering.{nat_cmp}
use Rattle.dmn_versions.specs.Trees.{IsSound}
use Rattle.dmn_low_tests.proofs.trees.nodes_fall_where_versions_are_let_go.Given as goal

-- the version in hand and those that are kept are sound
abbrev pub invariant-loop-key : goal.invariant-loop-key
invariant-loop-key g l = IsSound nat_cmp l.arena.nodes.items l.root.0 × All (λ r. IsSound nat_cmp l.arena.nodes.items r.0) l.let_go.items

abbrev pub invariant-loop-key-2 : goal.invariant-loop-key-2
invariant-loop-key-2 g l = IsSound nat_cmp l.arena.nodes.items l.root.0 × All (λ r. IsSound nat_cmp l.arena.nodes.items r.0) l.kept.items
