-- What a compaction has marked, and what it has copied.
use Rattle.std.specs.Prelude.{◌≡◌, ℕ, ◌+◌, ◌<◌, ◌≤◌, Bool, true, false, List, length, get_or}
use Rattle.std.specs.declared.cmp.Ordering.{Ordering}
use Rattle.dmn_versions.specs.declared.node.Node.{Node}
use Rattle.dmn_versions.specs.declared.node.Root.{Root}
use Rattle.dmn_versions.specs.Trees.{tree_at, pairs, height_of, IsSound, Opens}

abbrev pub IsMarked : List Bool → ℕ → Type 0
IsMarked marks root = get_or marks root false ≡ true

-- each marked root is sound, and those above `at` have their sides marked
pub record Marks {K V : Type 0} (cmp : K → K → Ordering) (nodes : List (Node K V)) (marks : List Bool) (at : ℕ) : Type 0 where
  pub long : length marks ≡ length nodes + 1
  pub sound : (root : ℕ) → IsMarked marks root → IsSound cmp nodes root
  pub empty : IsMarked marks 0
  pub closed : (root : ℕ) (n : Node K V) → at < root → IsMarked marks root → Opens cmp nodes root n → IsMarked marks n.left × IsMarked marks n.right

-- the new root reads as the old one
pub record Copied {K V : Type 0} (cmp : K → K → Ordering) (old new : List (Node K V)) (from to : ℕ) : Type 0 where
  pub sound : IsSound cmp new to
  pub reads : pairs (tree_at new to) ≡ pairs (tree_at old from)
  pub height : height_of (tree_at new to) ≡ height_of (tree_at old from)

-- the marked roots up to `at` are copied, each to its place
pub record Copies {K V : Type 0} (cmp : K → K → Ordering) (old new : List (Node K V)) (marks : List Bool) (places : List ℕ) (at : ℕ) : Type 0 where
  pub long : length places ≡ at + 1
  pub few : length new ≤ at
  pub copied : (root : ℕ) → root ≤ at → IsMarked marks root → Copied cmp old new root (get_or places root 0)

-- each new root reads as the old one at its place
pub record Moves {K V : Type 0} (cmp : K → K → Ordering) (old new : List (Node K V)) (roots moved : List Root) : Type 0 where
  pub long : length moved ≡ length roots
  pub each : (k : ℕ) (d e : Root) → k < length roots → Copied cmp old new (get_or roots k d).0 (get_or moved k e).0
