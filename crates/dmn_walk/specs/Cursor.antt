-- What a cursor over a tree has left.
use Rattle.std.specs.Prelude.{◌≡◌, ℕ, ◌+◌, ◌-◌, ◌*◌, ◌<◌, ◌≤◌, T, Bool, List, [], ◌∷◌, ◌++◌, length, drop}
use Rattle.std.specs.declared.cmp.Ordering.{Ordering}
use Rattle.std.specs.FinMap.{is_sorted}
use Rattle.dmn_versions.specs.declared.node.Node.{Node}
use Rattle.dmn_versions.specs.Trees.{Tree, Empty, Fork, tree_at, pairs, IsSound}
use Rattle.dmn_walk.specs.declared.walk.Cursor.{Cursor}
use Rattle.dmn_walk.specs.declared.walk.Walk.{Walk}
use Rattle.dmn_walk.specs.Delta.{gone_of, put_of}

-- a node's own pair, and those on its right
abbrev pub tail_of : {K V : Type 0} → Tree K V → List (K × V)
tail_of Empty = []
tail_of (Fork i n l r) = (n.key, n.value) ∷ pairs r

-- what the nodes above still give; the last of them is the next
abbrev pub spine_pairs : {K V : Type 0} → List (Node K V) → List ℕ → List (K × V)
spine_pairs nodes [] = []
spine_pairs nodes (x ∷ xs) = spine_pairs nodes xs ++ tail_of (tree_at nodes x)

-- the pairs that are left
abbrev pub cursor_pairs : {K V : Type 0} → List (Node K V) → Cursor → List (K × V)
cursor_pairs nodes cursor = pairs (tree_at nodes cursor.pending) ++ spine_pairs nodes cursor.spine.items

abbrev pub AllForks : {K V : Type 0} → (K → K → Ordering) → List (Node K V) → List ℕ → Type 0
AllForks cmp nodes [] = Unit {0}
AllForks cmp nodes (x ∷ xs) = (0 < x) × IsSound cmp nodes x × AllForks cmp nodes xs

pub record IsCursor {K V : Type 0} (cmp : K → K → Ordering) (nodes : List (Node K V)) (cursor : Cursor) : Type 0 where
  pub pending : IsSound cmp nodes cursor.pending
  pub forks : AllForks cmp nodes cursor.spine.items
  pub ascending : T (is_sorted cmp (cursor_pairs nodes cursor))

-- the work that is left
abbrev pub spine_weight : {K V : Type 0} → List (Node K V) → List ℕ → ℕ
spine_weight nodes [] = 0
spine_weight nodes (x ∷ xs) = spine_weight nodes xs + (2 * length (tail_of (tree_at nodes x)) - 1)

abbrev pub weight : {K V : Type 0} → List (Node K V) → Cursor → ℕ
weight nodes cursor = 2 * length (pairs (tree_at nodes cursor.pending)) + spine_weight nodes cursor.spine.items

-- the same pairs are left, with less work
pub record Descends {K V : Type 0} (cmp : K → K → Ordering) (nodes : List (Node K V)) (old new : Cursor) : Type 0 where
  pub cursor : IsCursor cmp nodes new
  pub same : cursor_pairs nodes new ≡ cursor_pairs nodes old
  pub lighter : weight nodes new < weight nodes old

-- the first pair is passed, if there is one
pub record Advances {K V : Type 0} (cmp : K → K → Ordering) (nodes : List (Node K V)) (old new : Cursor) : Type 0 where
  pub cursor : IsCursor cmp nodes new
  pub rest : cursor_pairs nodes new ≡ drop 1 (cursor_pairs nodes old)
  pub not_heavier : weight nodes new ≤ weight nodes old
  pub lighter : 0 < length (cursor_pairs nodes old) → weight nodes new < weight nodes old

-- what was found with what is still to be found is as before
pub record Goes {K V : Type 0} (cmp : K → K → Ordering) (eq : V → V → Bool) (nodes : List (Node K V)) (old new : Walk K V) : Type 0 where
  pub before : IsCursor cmp nodes new.before
  pub after : IsCursor cmp nodes new.after
  pub gone : new.gone.items ++ gone_of cmp (cursor_pairs nodes new.before) (cursor_pairs nodes new.after) ≡ old.gone.items ++ gone_of cmp (cursor_pairs nodes old.before) (cursor_pairs nodes old.after)
  pub put : new.put.items ++ put_of cmp eq (cursor_pairs nodes new.before) (cursor_pairs nodes new.after) ≡ old.put.items ++ put_of cmp eq (cursor_pairs nodes old.before) (cursor_pairs nodes old.after)
  pub not_heavier : weight nodes new.before + weight nodes new.after ≤ weight nodes old.before + weight nodes old.after

-- less work is left
abbrev pub IsLighter : {K V : Type 0} → List (Node K V) → Walk K V → Walk K V → Type 0
IsLighter nodes old new = weight nodes new.before + weight nodes new.after < weight nodes old.before + weight nodes old.after

-- nothing is left
abbrev pub IsOver : {K V : Type 0} → List (Node K V) → Walk K V → Type 0
IsOver nodes walk = (cursor_pairs nodes walk.before ≡ []) × (cursor_pairs nodes walk.after ≡ [])
