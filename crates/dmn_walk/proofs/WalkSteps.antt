-- Steps of two cursors side by side.
use Rattle.std.proofs.Common.{◌≡◌, ◌+◌, ◌≤◌, T, Bool, true, false, cond, List, [], ◌∷◌, ◌++◌, length, drop, Some, None, slice_get, refl, sym, ap, ◌∙◌, subst, arith, append_assoc}
use Rattle.std.proofs.lemmas.List.{append-nil}
use Rattle.std.specs.declared.cmp.Ordering.{Ordering}
use Rattle.std.specs.declared.cmp.Ordering.TheVariants.{Less, Equal, Greater}
use Rattle.std.specs.Cmp.{IsTotalOrder}
use Rattle.std.specs.FinMap.{is_sorted}
use Rattle.dmn_versions.specs.declared.node.Node.{Node}
use Rattle.dmn_versions.specs.Trees.{tree_at, pairs, IsSound}
use Rattle.dmn_versions.proofs.Trees.{tree_at-zero}
use Rattle.dmn_versions.proofs.Order.{sorted_back}
use Rattle.dmn_versions.proofs.Steps.{empty_pairs}
use Rattle.dmn_walk.specs.declared.walk.Cursor.{Cursor}
use Rattle.dmn_walk.specs.declared.walk.Walk.{Walk}
use Rattle.dmn_walk.specs.Delta.{gone_of, put_of}
use Rattle.dmn_walk.specs.Cursor.{spine_pairs, cursor_pairs, IsCursor, weight, Advances, Goes}
use Rattle.dmn_walk.proofs.CursorSteps.{settled_pairs}
use Rattle.dmn_walk.proofs.Differ.{gone_less, put_less, gone_greater, put_greater, gone_equal, put_equal, gone_shared, put_shared}

-- a list whose first element is known
pub cut_first : {X : Type 0} (xs : List X) (x : X) → Some x ≡ slice_get xs 0 → xs ≡ x ∷ drop 1 xs
cut_first [] x e = cc
cut_first (y ∷ ys) x e = let same : y ≡ x = cc in ap (λ z. z ∷ ys) same

pub cut_none : {X : Type 0} (xs : List X) → None ≡ slice_get xs 0 → xs ≡ []
cut_none [] e = refl
cut_none (y ∷ ys) e = cc

module _ {K V : Type 0} (cmp : K → K → Ordering) (eq : V → V → Bool) (nodes : List (Node K V)) where
  -- a step finds these keys and pairs, and leaves the rest to find
  pub goes_of : (old new : Walk K V) (xs : List K) (ys : List (K × V)) → IsCursor cmp nodes new.before → IsCursor cmp nodes new.after → new.gone.items ≡ old.gone.items ++ xs → new.put.items ≡ old.put.items ++ ys
      → gone_of cmp (cursor_pairs nodes old.before) (cursor_pairs nodes old.after) ≡ xs ++ gone_of cmp (cursor_pairs nodes new.before) (cursor_pairs nodes new.after)
      → put_of cmp eq (cursor_pairs nodes old.before) (cursor_pairs nodes old.after) ≡ ys ++ put_of cmp eq (cursor_pairs nodes new.before) (cursor_pairs nodes new.after)
      → weight nodes new.before + weight nodes new.after ≤ weight nodes old.before + weight nodes old.after → Goes cmp eq nodes old new
  goes_of old new xs ys b a g p dg dp w = record {
    before = b;
    after = a;
    gone = rw (g, dg) (append_assoc old.gone.items xs (gone_of cmp (cursor_pairs nodes new.before) (cursor_pairs nodes new.after)));
    put = rw (p, dp) (append_assoc old.put.items ys (put_of cmp eq (cursor_pairs nodes new.before) (cursor_pairs nodes new.after)));
    not_heavier = w;
  }

  pub goes_then : (a b c : Walk K V) → Goes cmp eq nodes a b → Goes cmp eq nodes b c → Goes cmp eq nodes a c
  goes_then a b c f g = record { before = g.before; after = g.after; gone = g.gone ∙ f.gone; put = g.put ∙ f.put; not_heavier = omega (arith, f.not_heavier, g.not_heavier) }

  pub goes_nowhere : (a b : Walk K V) → IsCursor cmp nodes b.before → IsCursor cmp nodes b.after → cursor_pairs nodes b.before ≡ cursor_pairs nodes a.before → cursor_pairs nodes b.after ≡ cursor_pairs nodes a.after → b.gone.items ≡ a.gone.items → b.put.items ≡ a.put.items → weight nodes b.before + weight nodes b.after ≤ weight nodes a.before + weight nodes a.after → Goes cmp eq nodes a b
  goes_nowhere a b x y p q g t w = record { before = x; after = y; gone = rw (p, q, g) refl; put = rw (p, q, t) refl; not_heavier = w }

  -- both skip the tree that they have pending
  settled_cursor : (old new : Cursor) → IsCursor cmp nodes old → new.pending ≡ 0 → new.spine.items ≡ old.spine.items → IsCursor cmp nodes new
  settled_cursor old new c p s =
      let is : cursor_pairs nodes new ≡ spine_pairs nodes old.spine.items = settled_pairs nodes new p ∙ ap (spine_pairs nodes) s in
      record {
        pending = record { named = omega (arith, p); shaped = rw (p, tree_at-zero nodes) tt; ascending = rw (empty_pairs nodes new.pending p) tt };
        forks = rw s c.forks;
        ascending = rw is (sorted_back cmp (pairs (tree_at nodes old.pending)) (spine_pairs nodes old.spine.items) c.ascending);
      }

  module _ (o : IsTotalOrder cmp) where
    pub skipped : ((v : V) → eq v v ≡ true) → (old new : Walk K V) → IsCursor cmp nodes old.before → IsCursor cmp nodes old.after → old.before.pending ≡ old.after.pending → new.before.pending ≡ 0 → new.after.pending ≡ 0 → new.before.spine.items ≡ old.before.spine.items → new.after.spine.items ≡ old.after.spine.items → new.gone.items ≡ old.gone.items → new.put.items ≡ old.put.items → Goes cmp eq nodes old new
    skipped same old new b a e nb na sb sa g t =
        let first : List (K × V) = pairs (tree_at nodes old.after.pending) in
        let left : List (K × V) = spine_pairs nodes old.before.spine.items in
        let right : List (K × V) = spine_pairs nodes old.after.spine.items in
        let was : cursor_pairs nodes old.before ≡ first ++ left = ap (λ i. pairs (tree_at nodes i) ++ left) e in
        let is_left : cursor_pairs nodes new.before ≡ left = settled_pairs nodes new.before nb ∙ ap (spine_pairs nodes) sb in
        let is_right : cursor_pairs nodes new.after ≡ right = settled_pairs nodes new.after na ∙ ap (spine_pairs nodes) sa in
        goes_of old new [] [] (settled_cursor old.before new.before b nb sb) (settled_cursor old.after new.after a na sa) (g ∙ sym (append-nil old.gone.items)) (t ∙ sym (append-nil old.put.items))
        (rw (was, is_left, is_right) (gone_shared cmp eq o same first left right (rw was at b.ascending)))
        (rw (was, is_left, is_right) (put_shared cmp eq o same first left right a.ascending))
        (rw (sb, sa, nb, na) (omega (arith, ap length (empty_pairs nodes 0 refl))))

    module _ (old new : Walk K V) (x y : K × V) (b : IsCursor cmp nodes old.before) (a : IsCursor cmp nodes old.after) (hb : Some x ≡ slice_get (cursor_pairs nodes old.before) 0) (ha : Some y ≡ slice_get (cursor_pairs nodes old.after) 0) where
      lists_b : cursor_pairs nodes old.before ≡ x ∷ drop 1 (cursor_pairs nodes old.before)
      lists_b = cut_first (cursor_pairs nodes old.before) x hb

      lists_a : cursor_pairs nodes old.after ≡ y ∷ drop 1 (cursor_pairs nodes old.after)
      lists_a = cut_first (cursor_pairs nodes old.after) y ha

      sorted_b : T (is_sorted cmp (x ∷ drop 1 (cursor_pairs nodes old.before)))
      sorted_b = subst (λ ps. T (is_sorted cmp ps)) lists_b b.ascending

      sorted_a : T (is_sorted cmp (y ∷ drop 1 (cursor_pairs nodes old.after)))
      sorted_a = subst (λ ps. T (is_sorted cmp ps)) lists_a a.ascending

      pub went_less : cmp x.0 y.0 ≡ Less → Advances cmp nodes old.before new.before → new.after ≡ old.after → new.gone.items ≡ old.gone.items ++ x.0 ∷ [] → new.put.items ≡ old.put.items → Goes cmp eq nodes old new
      went_less p s k g t =
          goes_of old new (x.0 ∷ []) [] s.cursor (rw k a) g (t ∙ sym (append-nil old.put.items))
          (rw (k, s.rest) (ap (λ z. gone_of cmp z (cursor_pairs nodes old.after)) lists_b ∙ ap (gone_of cmp (x ∷ drop 1 (cursor_pairs nodes old.before))) lists_a ∙ gone_less cmp eq o x (drop 1 (cursor_pairs nodes old.before)) y (drop 1 (cursor_pairs nodes old.after)) p sorted_a ∙ ap (λ z. x.0 ∷ gone_of cmp (drop 1 (cursor_pairs nodes old.before)) z) (sym lists_a)))
          (rw (k, s.rest) (ap (λ z. put_of cmp eq z (cursor_pairs nodes old.after)) lists_b ∙ ap (put_of cmp eq (x ∷ drop 1 (cursor_pairs nodes old.before))) lists_a ∙ put_less cmp eq o x (drop 1 (cursor_pairs nodes old.before)) y (drop 1 (cursor_pairs nodes old.after)) p sorted_a ∙ ap (put_of cmp eq (drop 1 (cursor_pairs nodes old.before))) (sym lists_a)))
          (rw k (omega (arith, s.not_heavier)))

      pub went_greater : cmp x.0 y.0 ≡ Greater → Advances cmp nodes old.after new.after → new.before ≡ old.before → new.gone.items ≡ old.gone.items → new.put.items ≡ old.put.items ++ y ∷ [] → Goes cmp eq nodes old new
      went_greater p s k g t =
          goes_of old new [] (y ∷ []) (rw k b) s.cursor (g ∙ sym (append-nil old.gone.items)) t
          (rw (k, s.rest) (ap (λ z. gone_of cmp z (cursor_pairs nodes old.after)) lists_b ∙ ap (gone_of cmp (x ∷ drop 1 (cursor_pairs nodes old.before))) lists_a ∙ gone_greater cmp eq o x (drop 1 (cursor_pairs nodes old.before)) y (drop 1 (cursor_pairs nodes old.after)) p sorted_b ∙ ap (λ z. gone_of cmp z (drop 1 (cursor_pairs nodes old.after))) (sym lists_b)))
          (rw (k, s.rest) (ap (λ z. put_of cmp eq z (cursor_pairs nodes old.after)) lists_b ∙ ap (put_of cmp eq (x ∷ drop 1 (cursor_pairs nodes old.before))) lists_a ∙ put_greater cmp eq o x (drop 1 (cursor_pairs nodes old.before)) y (drop 1 (cursor_pairs nodes old.after)) p sorted_b ∙ ap (λ z. y ∷ put_of cmp eq z (drop 1 (cursor_pairs nodes old.after))) (sym lists_b)))
          (rw k (omega (arith, s.not_heavier)))

      pub went_equal : cmp x.0 y.0 ≡ Equal → Advances cmp nodes old.before new.before → Advances cmp nodes old.after new.after → new.gone.items ≡ old.gone.items → new.put.items ≡ old.put.items ++ cond (eq x.1 y.1) [] (y ∷ []) → Goes cmp eq nodes old new
      went_equal p s r g t =
          goes_of old new [] (cond (eq x.1 y.1) [] (y ∷ [])) s.cursor r.cursor (g ∙ sym (append-nil old.gone.items)) t
          (rw (s.rest, r.rest) (ap (λ z. gone_of cmp z (cursor_pairs nodes old.after)) lists_b ∙ ap (gone_of cmp (x ∷ drop 1 (cursor_pairs nodes old.before))) lists_a ∙ gone_equal cmp eq o x (drop 1 (cursor_pairs nodes old.before)) y (drop 1 (cursor_pairs nodes old.after)) p sorted_b))
          (rw (s.rest, r.rest) (ap (λ z. put_of cmp eq z (cursor_pairs nodes old.after)) lists_b ∙ ap (put_of cmp eq (x ∷ drop 1 (cursor_pairs nodes old.before))) lists_a ∙ put_equal cmp eq o x (drop 1 (cursor_pairs nodes old.before)) y (drop 1 (cursor_pairs nodes old.after)) p sorted_a
          ∙ spread (eq x.1 y.1) y (put_of cmp eq (drop 1 (cursor_pairs nodes old.before)) (drop 1 (cursor_pairs nodes old.after)))))
          (omega (arith, s.not_heavier, r.not_heavier))
        where
          spread : (c : Bool) (z : K × V) (zs : List (K × V)) → cond c zs (z ∷ zs) ≡ cond c [] (z ∷ []) ++ zs
          spread true z zs = refl
          spread false z zs = refl

  -- only one of the lists has a pair left
  pub went_gone : (old new : Walk K V) (x : K × V) → IsCursor cmp nodes old.after → Some x ≡ slice_get (cursor_pairs nodes old.before) 0 → None ≡ slice_get (cursor_pairs nodes old.after) 0 → Advances cmp nodes old.before new.before → new.after ≡ old.after → new.gone.items ≡ old.gone.items ++ x.0 ∷ [] → new.put.items ≡ old.put.items → Goes cmp eq nodes old new
  went_gone old new x a hb ha s k g t =
      let none : cursor_pairs nodes old.after ≡ [] = cut_none (cursor_pairs nodes old.after) ha in
      let some : cursor_pairs nodes old.before ≡ x ∷ drop 1 (cursor_pairs nodes old.before) = cut_first (cursor_pairs nodes old.before) x hb in
      goes_of old new (x.0 ∷ []) [] s.cursor (rw k a) g (t ∙ sym (append-nil old.put.items))
      (rw (k, s.rest, none) (ap (λ z. gone_of cmp z []) some))
      (rw (k, s.rest, none) refl)
      (rw k (omega (arith, s.not_heavier)))

  pub went_put : (old new : Walk K V) (y : K × V) → IsCursor cmp nodes old.before → None ≡ slice_get (cursor_pairs nodes old.before) 0 → Some y ≡ slice_get (cursor_pairs nodes old.after) 0 → Advances cmp nodes old.after new.after → new.before ≡ old.before → new.gone.items ≡ old.gone.items → new.put.items ≡ old.put.items ++ y ∷ [] → Goes cmp eq nodes old new
  went_put old new y b hb ha s k g t =
      let none : cursor_pairs nodes old.before ≡ [] = cut_none (cursor_pairs nodes old.before) hb in
      let some : cursor_pairs nodes old.after ≡ y ∷ drop 1 (cursor_pairs nodes old.after) = cut_first (cursor_pairs nodes old.after) y ha in
      goes_of old new [] (y ∷ []) (rw k b) s.cursor (g ∙ sym (append-nil old.gone.items)) t
      (rw (k, s.rest, none) refl)
      (rw (k, s.rest, none) (ap (λ z. put_of cmp eq [] z) some))
      (rw k (omega (arith, s.not_heavier)))

  pub whole_pairs : (cursor : Cursor) → cursor.spine.items ≡ [] → cursor_pairs nodes cursor ≡ pairs (tree_at nodes cursor.pending)
  whole_pairs cursor s = ap (λ xs. pairs (tree_at nodes cursor.pending) ++ spine_pairs nodes xs) s ∙ append-nil (pairs (tree_at nodes cursor.pending))

  -- a cursor over a whole tree
  pub started : (cursor : Cursor) → IsSound cmp nodes cursor.pending → cursor.spine.items ≡ [] → IsCursor cmp nodes cursor
  started cursor c s = record { pending = c; forks = rw s tt; ascending = rw (whole_pairs cursor s) c.ascending }

  pub starts : (walk : Walk K V) → IsSound cmp nodes walk.before.pending → IsSound cmp nodes walk.after.pending → walk.before.spine.items ≡ [] → walk.after.spine.items ≡ [] → Goes cmp eq nodes walk walk
  starts walk b a s t = record { before = started walk.before b s; after = started walk.after a t; gone = refl; put = refl; not_heavier = omega arith }
