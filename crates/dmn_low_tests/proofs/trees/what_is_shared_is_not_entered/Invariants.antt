use Rattle.std.specs.List.{All}
use Rattle.std.specs.Ordering.{nat_cmp, on}
use Rattle.dmn_versions.specs.Trees.{IsSound}
use Rattle.dmn_low_tests.specs.declared.trees.Counting.{Counting}
use Rattle.dmn_low_tests.proofs.trees.what_is_shared_is_not_entered.Given as goal

-- the version in hand and all that are kept are sound
abbrev pub invariant-loop-number : goal.invariant-loop-number
invariant-loop-number g l =
    IsSound (on (λ (k : Counting). k.number) nat_cmp) l.arena.nodes.items l.root.0 × All (λ r. IsSound (on (λ (k : Counting). k.number) nat_cmp) l.arena.nodes.items r.0) l.roots.items
