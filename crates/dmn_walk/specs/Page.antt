-- What a page still gives.
use Rattle.std.specs.Prelude.{List, take, drop}
use Rattle.std.specs.declared.cmp.Ordering.{Ordering}
use Rattle.dmn_versions.specs.Trees.{IsSound, reads}
use Rattle.dmn_walk.specs.declared.pages.Pairs.{Pairs}

-- the pairs that are left
abbrev pub pairs_left : {K V : Type 0} → Pairs K V → List (K × V)
pairs_left page = take page.most (drop page.rank (reads page.arena.now page.root))

-- the root is sound, so the page can go on
abbrev pub IsReady : {K V : Type 0} → (K → K → Ordering) → Pairs K V → Type 0
IsReady cmp page = IsSound cmp page.arena.now.nodes.items page.root.0
