-- Steps of a cursor.
use Rattle.std.proofs.Common.{◌≡◌, ℕ, suc, ◌+◌, ◌-◌, ◌*◌, ◌<◌, T, List, [], ◌∷◌, ◌++◌, length, drop, Some, None, slice_get, refl, sym, ap, ◌∙◌, subst, arith, append_assoc, length-append}
use Rattle.std.specs.declared.cmp.Ordering.{Ordering}
use Rattle.std.specs.FinMap.{is_sorted}
use Rattle.dmn_versions.specs.declared.node.Node.{Node}
use Rattle.dmn_versions.specs.Trees.{tree_at, pairs, IsSound, Opens}
use Rattle.dmn_versions.proofs.Steps.{open_pairs, empty_pairs}
use Rattle.dmn_versions.proofs.Order.{sorted_back}
use Rattle.dmn_walk.specs.declared.walk.Cursor.{Cursor}
use Rattle.dmn_walk.specs.Cursor.{tail_of, spine_pairs, cursor_pairs, AllForks, IsCursor, spine_weight, weight, Descends, Advances}

module _ {K V : Type 0} (nodes : List (Node K V)) where
  pub spine_pairs-push : (xs : List ℕ) (y : ℕ) → spine_pairs nodes (xs ++ y ∷ []) ≡ tail_of (tree_at nodes y) ++ spine_pairs nodes xs
  spine_pairs-push [] y = sym (Rattle.std.proofs.lemmas.List.append-nil (tail_of (tree_at nodes y)))
  spine_pairs-push (x ∷ xs) y = ap (λ z. z ++ tail_of (tree_at nodes x)) (spine_pairs-push xs y) ∙ append_assoc (tail_of (tree_at nodes y)) (spine_pairs nodes xs) (tail_of (tree_at nodes x))

  pub spine_weight-push : (xs : List ℕ) (y : ℕ) → spine_weight nodes (xs ++ y ∷ []) ≡ spine_weight nodes xs + (2 * length (tail_of (tree_at nodes y)) - 1)
  spine_weight-push [] y = refl
  spine_weight-push (x ∷ xs) y = omega (arith, spine_weight-push xs y)

  -- a settled cursor gives what its spine gives
  pub settled_pairs : (cursor : Cursor) → cursor.pending ≡ 0 → cursor_pairs nodes cursor ≡ spine_pairs nodes cursor.spine.items
  settled_pairs cursor e = ap (λ z. z ++ spine_pairs nodes cursor.spine.items) (empty_pairs nodes cursor.pending e)

module _ {K V : Type 0} (cmp : K → K → Ordering) (nodes : List (Node K V)) where
  pub forks_front : (xs : List ℕ) (y : ℕ) → AllForks cmp nodes (xs ++ y ∷ []) → AllForks cmp nodes xs
  forks_front [] y a = tt
  forks_front (x ∷ xs) y a = (a.0, a.1, forks_front xs y a.2)

  pub forks_last : (xs : List ℕ) (y : ℕ) → AllForks cmp nodes (xs ++ y ∷ []) → (0 < y) × IsSound cmp nodes y
  forks_last [] y a = (a.0, a.1)
  forks_last (x ∷ xs) y a = forks_last xs y a.2

  pub fork_at : (all xs : List ℕ) (y : ℕ) → AllForks cmp nodes all → all ≡ xs ++ y ∷ [] → (0 < y) × IsSound cmp nodes y
  fork_at all xs y a e = forks_last xs y (subst (AllForks cmp nodes) e a)

last_splits : (xs : List ℕ) (y : ℕ) → slice_get xs (length xs - 1) ≡ Some y → (front : List ℕ) × (xs ≡ front ++ y ∷ [])
last_splits [] y e = cc
last_splits (x ∷ []) y e = let same : x ≡ y = cc in ([], ap (λ z. z ∷ []) same)
last_splits (x ∷ (z ∷ zs)) y e =
    let shift : suc (suc (length zs)) - 1 ≡ suc (suc (length zs) - 1) = omega arith in
    let rest = last_splits (z ∷ zs) y (sym (ap (slice_get (x ∷ z ∷ zs)) shift) ∙ e) in
    (x ∷ rest.0, ap (λ r. x ∷ r) rest.1)

pub no_last : (xs : List ℕ) → slice_get xs (length xs - 1) ≡ None → xs ≡ []
no_last [] e = refl
no_last (x ∷ xs) e = cc (Rattle.std.proofs.lemmas.Option.slice_get-get_or (x ∷ xs) (length (x ∷ xs) - 1) 0 (omega arith))

module _ {K V : Type 0} {cmp : K → K → Ordering} {nodes : List (Node K V)} where
  pub forks_push : (xs : List ℕ) (y : ℕ) → AllForks cmp nodes xs → 0 < y → IsSound cmp nodes y → AllForks cmp nodes (xs ++ y ∷ [])
  forks_push [] y a h s = (h, s, tt)
  forks_push (x ∷ xs) y a h s = (a.0, a.1, forks_push xs y a.2 h s)

  pub descended : (old new : Cursor) (n : Node K V) → IsCursor cmp nodes old → 0 < old.pending → Opens cmp nodes old.pending n → new.pending ≡ n.left → new.spine.items ≡ old.spine.items ++ old.pending ∷ [] → Descends cmp nodes old new
  descended old new n c h o p s =
      let tail : tail_of (tree_at nodes old.pending) ≡ (n.key, n.value) ∷ pairs (tree_at nodes n.right) = ap tail_of o.is in
      let same : cursor_pairs nodes new ≡ cursor_pairs nodes old =
      rw (p, s, spine_pairs-push nodes old.spine.items old.pending, tail) (sym (append_assoc (pairs (tree_at nodes n.left)) ((n.key, n.value) ∷ pairs (tree_at nodes n.right)) (spine_pairs nodes old.spine.items)) ∙ ap (λ z. z ++ spine_pairs nodes old.spine.items) (sym (open_pairs o))) in
      record {
        cursor = record { pending = rw p o.left; forks = rw s (forks_push old.spine.items old.pending c.forks h c.pending); ascending = rw same c.ascending };
        same = same;
        lighter = rw (p, s) (omega (arith, spine_weight-push nodes old.spine.items old.pending, ap length tail, ap length (open_pairs o), length-append (pairs (tree_at nodes n.left)) ((n.key, n.value) ∷ pairs (tree_at nodes n.right))));
      }

  pub settled_top : (cursor : Cursor) (xs : List ℕ) (top : ℕ) (n : Node K V) → cursor.pending ≡ 0 → cursor.spine.items ≡ xs ++ top ∷ [] → Opens cmp nodes top n → cursor_pairs nodes cursor ≡ (n.key, n.value) ∷ (pairs (tree_at nodes n.right) ++ spine_pairs nodes xs)
  settled_top cursor xs top n e s o = settled_pairs nodes cursor e ∙ ap (spine_pairs nodes) s ∙ spine_pairs-push nodes xs top ∙ ap (λ t. tail_of t ++ spine_pairs nodes xs) o.is

  pub advanced : (old new : Cursor) (top : ℕ) (n : Node K V) → IsCursor cmp nodes old → old.pending ≡ 0 → old.spine.items ≡ new.spine.items ++ top ∷ [] → Opens cmp nodes top n → new.pending ≡ n.right → Advances cmp nodes old new
  advanced old new top n c e s o p =
      let was : cursor_pairs nodes old ≡ (n.key, n.value) ∷ (pairs (tree_at nodes n.right) ++ spine_pairs nodes new.spine.items) = settled_top old new.spine.items top n e s o in
      let rest : cursor_pairs nodes new ≡ drop 1 (cursor_pairs nodes old) = rw (was, p) refl in
      let tail : tail_of (tree_at nodes top) ≡ (n.key, n.value) ∷ pairs (tree_at nodes n.right) = ap tail_of o.is in
      let lighter : weight nodes new < weight nodes old = rw (p, s) (omega (arith, spine_weight-push nodes new.spine.items top, ap length tail)) in
      record {
        cursor = record {
          pending = rw p o.right;
          forks = forks_front cmp nodes new.spine.items top (subst (AllForks cmp nodes) s c.forks);
          ascending = rw (rest, was) (sorted_back cmp ((n.key, n.value) ∷ []) _ (subst (λ ps. T (is_sorted cmp ps)) was c.ascending));
        };
        rest = rest;
        not_heavier = omega arith;
        lighter = λ _. lighter;
      }

  pub advanced_end : (old new : Cursor) → IsCursor cmp nodes old → old.pending ≡ 0 → old.spine.items ≡ [] → new.pending ≡ old.pending → new.spine.items ≡ [] → Advances cmp nodes old new
  advanced_end old new c e s p t =
      let was : cursor_pairs nodes old ≡ [] = settled_pairs nodes old e ∙ ap (spine_pairs nodes) s in
      let is : cursor_pairs nodes new ≡ [] = settled_pairs nodes new (p ∙ e) ∙ ap (spine_pairs nodes) t in
      record {
        cursor = record { pending = rw p c.pending; forks = rw t tt; ascending = rw is tt };
        rest = rw (is, was) refl;
        not_heavier = rw (p, t) (omega arith);
        lighter = λ h. absurd (omega (arith, ap length was));
      }

  pub head_top : (cursor : Cursor) (top : ℕ) (n : Node K V) → cursor.pending ≡ 0 → slice_get cursor.spine.items (length cursor.spine.items - 1) ≡ Some top → Opens cmp nodes top n → Some (n.key, n.value) ≡ slice_get (cursor_pairs nodes cursor) 0
  head_top cursor top n e h o =
      let cut = last_splits cursor.spine.items top h in
      sym (ap (λ ps. slice_get ps 0) (settled_top cursor cut.0 top n e cut.1 o))

  pub top_fork : (cursor : Cursor) (top : ℕ) → AllForks cmp nodes cursor.spine.items → slice_get cursor.spine.items (length cursor.spine.items - 1) ≡ Some top → (0 < top) × IsSound cmp nodes top
  top_fork cursor top a h = let cut = last_splits cursor.spine.items top h in fork_at cmp nodes cursor.spine.items cut.0 top a cut.1

module _ {K V : Type 0} where
  pub head_end : (nodes : List (Node K V)) (cursor : Cursor) → cursor.pending ≡ 0 → slice_get cursor.spine.items (length cursor.spine.items - 1) ≡ None → slice_get (cursor_pairs nodes cursor) 0 ≡ None
  head_end nodes cursor e h = ap (λ ps. slice_get ps 0) (settled_pairs nodes cursor e ∙ ap (spine_pairs nodes) (no_last cursor.spine.items h))
