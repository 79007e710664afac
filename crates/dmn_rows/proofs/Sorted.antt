-- What stands at a key's place in a list that ascends, and what changes there do.
use Rattle.std.proofs.Common.{◌≡◌, ℕ, zero, suc, ◌≤◌, ◌<◌, Bool, true, false, not, cond, List, [], ◌∷◌, ◌++◌, length, get_or, set, filter, find, Option, Some, None, refl, sym, ap, ◌∙◌, inl, inr, subst, arith}
use Rattle.std.specs.Prelude.{is_some, slice_get}
use Rattle.std.specs.List.{insert, remove, list_any, AllByRecursion}
use Rattle.std.specs.List.Sorted.{IsPartitionedBy, IsPartitionPoint}
use Rattle.std.specs.declared.cmp.Ordering.{Ordering}
use Rattle.std.specs.declared.cmp.Ordering.TheVariants.{Less, Equal, Greater}
use Rattle.std.specs.Ordering.{is_lt, ordering_reverse}
use Rattle.std.proofs.lemmas.Bool.{cases_Bool, false_from_ne_true}
use Rattle.std.proofs.lemmas.Option.{slice_get-get_or}
pub use Rattle.dmn_rows.specs.Sorted.{IsKey}
use Rattle.dmn_rows.specs.Sorted.{IsAbove, Ascends, put_sorted, place_in, passes_at}

pub less_from : (o : Ordering) → is_lt o ≡ true → o ≡ Less
less_from Less h = refl
less_from Equal h = cc
less_from Greater h = cc

-- a value is found where one passes the test
pub is_some-find : {V : Type 0} (test : V → Bool) (list : List V) → is_some (find test list) ≡ list_any test list
is_some-find test [] = refl
is_some-find test (v ∷ list) = elim (cases_Bool (test v)) [
  | inl passes ↦ rw passes refl
  | inr fails ↦ rw fails (is_some-find test list)
]

module _ {K V : Type 0} (cmp : K → K → Ordering) (key : V → K) (has : K → V → Bool) (is : IsKey cmp key has) where
  abbrev lower : K → List V → List V
  lower k = filter (λ w. is_lt (cmp (key w) k))

  abbrev higher : K → List V → List V
  higher k = filter (λ w. is_lt (cmp k (key w)))

  abbrev others : K → List V → List V
  others k = filter (λ w. not (has k w))

  -- ---- the order

  turned : (a b : K) → cmp a b ≡ Less → cmp b a ≡ Greater
  turned a b less = is.total.antisymm b a ∙ ap ordering_reverse less

  pub not_above : (a b : K) → cmp a b ≡ Less → is_lt (cmp b a) ≡ false
  not_above a b less = ap is_lt (turned a b less)

  -- no key is below itself
  not_below_itself : (a : K) → is_lt (cmp a a) ≡ false
  not_below_itself a = false_from_ne_true (is_lt (cmp a a)) (λ below.
      let less : cmp a a ≡ Less = less_from (cmp a a) below in
      let both : Less ≡ Greater = sym less ∙ turned a a less in
      cc)

  pub differs_below : (k : K) (v : V) → cmp (key v) k ≡ Less → has k v ≡ false
  differs_below k v less = false_from_ne_true (has k v) (λ same.
      let no : true ≡ false = sym (ap is_lt less) ∙ ap (λ (h : K). is_lt (cmp h k)) (is.decides k v same) ∙ not_below_itself k in
      cc)

  pub differs_above : (k : K) (v : V) → cmp k (key v) ≡ Less → has k v ≡ false
  differs_above k v less = false_from_ne_true (has k v) (λ same.
      let no : true ≡ false = sym (ap is_lt less) ∙ ap (λ (h : K). is_lt (cmp k h)) (is.decides k v same) ∙ not_below_itself k in
      cc)

  -- a value that neither is below a key nor has it is above it
  above_from : (k : K) (v : V) → is_lt (cmp (key v) k) ≡ false → has k v ≡ false → cmp k (key v) ≡ Less
  above_from k v not_below differs = go (cmp (key v) k) refl
    where
      go : (o : Ordering) → cmp (key v) k ≡ o → cmp k (key v) ≡ Less
      go Less e = let no : true ≡ false = sym (ap is_lt e) ∙ not_below in cc
      go Equal e = let no : true ≡ false = sym (is.decided k v (is.exact (key v) k e)) ∙ differs in cc
      go Greater e = is.total.antisymm k (key v) ∙ ap ordering_reverse e

  pub above_lower : (low high : K) (list : List V) → cmp low high ≡ Less → IsAbove cmp key high list → IsAbove cmp key low list
  above_lower low high [] less above = tt
  above_lower low high (v ∷ list) less above = (is.total.trans low high (key v) less above.0, above_lower low high list less above.1)

  -- ---- what stands above a key

  none_lower : (k : K) (list : List V) → IsAbove cmp key k list → lower k list ≡ []
  none_lower k [] above = refl
  none_lower k (v ∷ list) above = rw (not_above k (key v) above.0) (none_lower k list above.1)

  all_higher : (k : K) (list : List V) → IsAbove cmp key k list → higher k list ≡ list
  all_higher k [] above = refl
  all_higher k (v ∷ list) above = rw (ap is_lt above.0) (ap (λ (l : List V). v ∷ l) (all_higher k list above.1))

  none_dropped : (k : K) (list : List V) → IsAbove cmp key k list → others k list ≡ list
  none_dropped k [] above = refl
  none_dropped k (v ∷ list) above = rw (differs_above k v above.0) (ap (λ (l : List V). v ∷ l) (none_dropped k list above.1))

  pub none_found : (k : K) (list : List V) → IsAbove cmp key k list → find (has k) list ≡ None
  none_found k [] above = refl
  none_found k (v ∷ list) above = rw (differs_above k v above.0) (none_found k list above.1)

  -- ---- the three ways in which a list that ascends meets a key

  pub data Meets (k : K) (v : V) (list : List V) : Type 0 where
    is_lower : cmp (key v) k ≡ Less → Meets k v list
    is_it : is_lt (cmp (key v) k) ≡ false → has k v ≡ true → IsAbove cmp key k list → Meets k v list
    is_higher : is_lt (cmp (key v) k) ≡ false → has k v ≡ false → IsAbove cmp key k (v ∷ list) → Meets k v list

  pub meets : (k : K) (v : V) (list : List V) → Ascends cmp key (v ∷ list) → Meets k v list
  meets k v list ascending = elim (cases_Bool (is_lt (cmp (key v) k))) [
    | inl below ↦ is_lower (less_from (cmp (key v) k) below)
    | inr not_below ↦ elim (cases_Bool (has k v)) [
      | inl same ↦ is_it not_below same (subst (λ (h : K). IsAbove cmp key h list) (is.decides k v same) ascending.0)
      | inr differs ↦
          let above : cmp k (key v) ≡ Less = above_from k v not_below differs in
          is_higher not_below differs (above, above_lower k (key v) list above ascending.0)
    ]
  ]

  itself : (k : K) (v : V) → has k v ≡ true → is_lt (cmp k (key v)) ≡ false
  itself k v same = ap (λ (h : K). is_lt (cmp k h)) (is.decides k v same) ∙ not_below_itself k

  -- ---- the place of a key, found by halving

  above_at : (k : K) (list : List V) (i : ℕ) (d : V) → IsAbove cmp key k list → i < length list → cmp k (key (get_or list i d)) ≡ Less
  above_at k [] i d above lt = absurd (omega arith)
  above_at k (v ∷ list) zero d above lt = above.0
  above_at k (v ∷ list) (suc i) d above lt = above_at k list i d above.1 (omega arith)

  -- the values of lower keys stand in front
  pub parted : (k : K) (list : List V) → Ascends cmp key list → IsPartitionedBy (λ v. is_lt (cmp (key v) k)) list
  parted k [] ascending i j d le lt below = absurd (omega arith)
  parted k (v ∷ list) ascending zero zero d le lt below = below
  parted k (v ∷ list) ascending zero (suc j) d le lt below =
      ap is_lt (is.total.trans (key v) (key (get_or list j d)) k (above_at (key v) list j d ascending.0 (omega arith)) (less_from (cmp (key (get_or list j d)) k) below))
  parted k (v ∷ list) ascending (suc i) zero d le lt below = absurd (omega arith)
  parted k (v ∷ list) ascending (suc i) (suc j) d le lt below = parted k list ascending.1 i j d (omega arith) (omega arith) below

  pub place_is : (k : K) (list : List V) (i : ℕ) → i ≤ length list → IsPartitionPoint (λ (v : V). is_lt (cmp (key v) k) ≡ true) (λ v. is_lt (cmp (key v) k) ≡ false) list i → i ≡ place_in cmp key k list
  place_is k [] i le point = omega arith
  place_is k (v ∷ list) zero le point = rw (point.1 0 v (omega arith) (omega arith)) refl
  place_is k (v ∷ list) (suc i) le point =
      rw (point.0 0 v (omega arith) (omega arith)) (ap suc (place_is k list i (omega arith) (λ j d low high. point.0 (suc j) d (omega arith) (omega arith), λ j d low high. point.1 (suc j) d (omega arith) (omega arith))))

  -- ---- a put, a drop and a look-up at the place of the key

  -- what a put does behind, at and before the first value
  pub put_below : (v w : V) (list : List V) → cmp (key w) (key v) ≡ Less → put_sorted cmp key v (w ∷ list) ≡ w ∷ put_sorted cmp key v list
  put_below v w list less = rw (ap is_lt less, not_above (key w) (key v) less) refl

  pub put_same : (v w : V) (list : List V) → is_lt (cmp (key w) (key v)) ≡ false → has (key v) w ≡ true → IsAbove cmp key (key v) list → put_sorted cmp key v (w ∷ list) ≡ v ∷ list
  put_same v w list not_below same above = rw (not_below, itself (key v) w same, none_lower (key v) list above, all_higher (key v) list above) refl

  pub put_above : (v w : V) (list : List V) → is_lt (cmp (key w) (key v)) ≡ false → IsAbove cmp key (key v) (w ∷ list) → put_sorted cmp key v (w ∷ list) ≡ v ∷ w ∷ list
  put_above v w list not_below above = rw (not_below, ap is_lt above.0, none_lower (key v) list above.1, all_higher (key v) list above.1) refl

  put_at : (v : V) (list : List V) → Ascends cmp key list → put_sorted cmp key v list ≡ cond (passes_at (has (key v)) list (place_in cmp key (key v) list)) (set list (place_in cmp key (key v) list) v) (insert list (place_in cmp key (key v) list) v)
  put_at v [] ascending = refl
  put_at v (w ∷ list) ascending = elim (meets (key v) w list ascending) [
    | is_lower less ↦
        put_below v w list less ∙ rw (ap is_lt less) (
        ap (λ (l : List V). w ∷ l) (put_at v list ascending.1)
        ∙ elim (passes_at (has (key v)) list (place_in cmp key (key v) list)) as (λ b. w ∷ cond b (set list (place_in cmp key (key v) list) v) (insert list (place_in cmp key (key v) list) v) ≡ cond b (w ∷ set list (place_in cmp key (key v) list) v) (w ∷ insert list (place_in cmp key (key v) list) v)) [ true ↦ refl | false ↦ refl ])
    | is_it not_below same above ↦ put_same v w list not_below same above ∙ rw not_below (rw same refl)
    | is_higher not_below differs above ↦ put_above v w list not_below above ∙ rw not_below (rw differs refl)
  ]

  drop_at : (k : K) (list : List V) → Ascends cmp key list → others k list ≡ cond (passes_at (has k) list (place_in cmp key k list)) (remove list (place_in cmp key k list)) list
  drop_at k [] ascending = refl
  drop_at k (v ∷ list) ascending = elim (meets k v list ascending) [
    | is_lower less ↦ rw (ap is_lt less, differs_below k v less) (
        ap (λ (l : List V). v ∷ l) (drop_at k list ascending.1)
        ∙ elim (passes_at (has k) list (place_in cmp key k list)) as (λ b. v ∷ cond b (remove list (place_in cmp key k list)) list ≡ cond b (v ∷ remove list (place_in cmp key k list)) (v ∷ list)) [ true ↦ refl | false ↦ refl ])
    | is_it not_below same above ↦ rw (not_below, same) (none_dropped k list above)
    | is_higher not_below differs above ↦ rw (not_below, differs) (ap (λ (l : List V). v ∷ l) (none_dropped k list above.1))
  ]

  find_at : (k : K) (list : List V) → Ascends cmp key list → find (has k) list ≡ cond (passes_at (has k) list (place_in cmp key k list)) (slice_get list (place_in cmp key k list)) None
  find_at k [] ascending = refl
  find_at k (v ∷ list) ascending = elim (meets k v list ascending) [
    | is_lower less ↦ rw (ap is_lt less, differs_below k v less) (find_at k list ascending.1)
    | is_it not_below same above ↦ rw (not_below, same) refl
    | is_higher not_below differs above ↦ rw (not_below, differs) (none_found k list above.1)
  ]

  some_at : (k : K) (list : List V) → Ascends cmp key list → is_some (find (has k) list) ≡ passes_at (has k) list (place_in cmp key k list)
  some_at k [] ascending = refl
  some_at k (v ∷ list) ascending = elim (meets k v list ascending) [
    | is_lower less ↦ rw (ap is_lt less, differs_below k v less) (some_at k list ascending.1)
    | is_it not_below same above ↦ rw (not_below, same) refl
    | is_higher not_below differs above ↦ rw (not_below, differs) (ap is_some (none_found k list above.1))
  ]

  -- ---- the same at a place that was found

  chosen : {A : Type 0} (b c : Bool) (x y z : A) → x ≡ cond b y z → b ≡ c → x ≡ cond c y z
  chosen b c x y z e same = e ∙ ap (λ v. cond v y z) same

  pub put_set : (v : V) (list : List V) (at : ℕ) → Ascends cmp key list → at ≡ place_in cmp key (key v) list → passes_at (has (key v)) list at ≡ true → set list at v ≡ put_sorted cmp key v list
  put_set v list at ascending place passes =
      ap (λ n. set list n v) place ∙ sym (chosen _ true _ _ _ (put_at v list ascending) (ap (passes_at (has (key v)) list) (sym place) ∙ passes))

  pub put_insert : (v : V) (list : List V) (at : ℕ) → Ascends cmp key list → at ≡ place_in cmp key (key v) list → passes_at (has (key v)) list at ≡ false → insert list at v ≡ put_sorted cmp key v list
  put_insert v list at ascending place passes =
      ap (λ n. insert list n v) place ∙ sym (chosen _ false _ _ _ (put_at v list ascending) (ap (passes_at (has (key v)) list) (sym place) ∙ passes))

  pub dropped : (k : K) (list : List V) (at : ℕ) → Ascends cmp key list → at ≡ place_in cmp key k list → passes_at (has k) list at ≡ true → remove list at ≡ others k list
  dropped k list at ascending place passes =
      ap (remove list) place ∙ sym (chosen _ true _ _ _ (drop_at k list ascending) (ap (passes_at (has k) list) (sym place) ∙ passes))

  pub not_dropped : (k : K) (list : List V) (at : ℕ) → Ascends cmp key list → at ≡ place_in cmp key k list → passes_at (has k) list at ≡ false → list ≡ others k list
  not_dropped k list at ascending place passes =
      sym (chosen _ false _ _ _ (drop_at k list ascending) (ap (passes_at (has k) list) (sym place) ∙ passes))

  within_at : (test : V → Bool) (list : List V) (at : ℕ) → passes_at test list at ≡ true → at < length list
  within_at test [] at passes = cc
  within_at test (v ∷ list) zero passes = omega arith
  within_at test (v ∷ list) (suc at) passes = let lt = within_at test list at passes in omega arith

  pub found_there : (k : K) (list : List V) (at : ℕ) (d : V) → Ascends cmp key list → at ≡ place_in cmp key k list → passes_at (has k) list at ≡ true → Some (get_or list at d) ≡ find (has k) list
  found_there k list at d ascending place passes =
      sym (slice_get-get_or list at d (within_at (has k) list at passes))
      ∙ ap (slice_get list) place ∙ sym (chosen _ true _ _ _ (find_at k list ascending) (ap (passes_at (has k) list) (sym place) ∙ passes))

  pub not_found : (k : K) (list : List V) (at : ℕ) → Ascends cmp key list → at ≡ place_in cmp key k list → passes_at (has k) list at ≡ false → None ≡ find (has k) list
  not_found k list at ascending place passes =
      sym (chosen _ false _ _ _ (find_at k list ascending) (ap (passes_at (has k) list) (sym place) ∙ passes))

  pub was_there : (k : K) (list : List V) (at : ℕ) → Ascends cmp key list → at ≡ place_in cmp key k list → passes_at (has k) list at ≡ is_some (find (has k) list)
  was_there k list at ascending place = ap (passes_at (has k) list) place ∙ sym (some_at k list ascending)

  -- ---- the order is kept

  filter_above : (test : V → Bool) (k : K) (list : List V) → IsAbove cmp key k list → IsAbove cmp key k (filter test list)
  filter_above test k [] above = tt
  filter_above test k (v ∷ list) above = elim (test v) as (λ b. IsAbove cmp key k (cond b (v ∷ filter test list) (filter test list))) [ true ↦ (above.0, filter_above test k list above.1) | false ↦ filter_above test k list above.1 ]

  pub Ascends-filter : (test : V → Bool) (list : List V) → Ascends cmp key list → Ascends cmp key (filter test list)
  Ascends-filter test [] ascending = tt
  Ascends-filter test (v ∷ list) ascending = elim (test v) as (λ b. Ascends cmp key (cond b (v ∷ filter test list) (filter test list))) [ true ↦ (filter_above test (key v) list ascending.0, Ascends-filter test list ascending.1) | false ↦ Ascends-filter test list ascending.1 ]

  -- all keys are below this one
  abbrev IsBelow : K → List V → Type 0
  IsBelow k = AllByRecursion (λ v. cmp (key v) k ≡ Less)

  lower_below : (k : K) (list : List V) → IsBelow k (lower k list)
  lower_below k [] = tt
  lower_below k (v ∷ list) = elim (cases_Bool (is_lt (cmp (key v) k))) [
    | inl below ↦ rw below (less_from (cmp (key v) k) below, lower_below k list)
    | inr not_below ↦ rw not_below (lower_below k list)
  ]

  higher_above : (k : K) (list : List V) → IsAbove cmp key k (higher k list)
  higher_above k [] = tt
  higher_above k (v ∷ list) = elim (cases_Bool (is_lt (cmp k (key v)))) [
    | inl below ↦ rw below (less_from (cmp k (key v)) below, higher_above k list)
    | inr not_below ↦ rw not_below (higher_above k list)
  ]

  joined_above : (k : K) (xs ys : List V) → IsAbove cmp key k xs → IsAbove cmp key k ys → IsAbove cmp key k (xs ++ ys)
  joined_above k [] ys p q = q
  joined_above k (x ∷ xs) ys p q = (p.0, joined_above k xs ys p.1 q)

  joined : (xs : List V) (v : V) (ys : List V) → Ascends cmp key xs → IsBelow (key v) xs → IsAbove cmp key (key v) ys → Ascends cmp key ys → Ascends cmp key (xs ++ v ∷ ys)
  joined [] v ys p below above q = (above, q)
  joined (x ∷ xs) v ys p below above q = (joined_above (key x) xs (v ∷ ys) p.0 (below.0, above_lower (key x) (key v) ys below.0 above), joined xs v ys p.1 below.1 above q)

  pub Ascends-put_sorted : (v : V) (list : List V) → Ascends cmp key list → Ascends cmp key (put_sorted cmp key v list)
  Ascends-put_sorted v list ascending =
      joined (lower (key v) list) v (higher (key v) list) (Ascends-filter _ list ascending) (lower_below (key v) list) (higher_above (key v) list) (Ascends-filter _ list ascending)

  -- ---- what is found behind a put or a drop

  pub find-put_sorted : (k : K) (v : V) (list : List V) → Ascends cmp key list → find (has k) (put_sorted cmp key v list) ≡ cond (has k v) (Some v) (find (has k) list)
  find-put_sorted k v [] ascending = refl
  find-put_sorted k v (w ∷ list) ascending = elim (meets (key v) w list ascending) [
    | is_lower less ↦
        ap (find (has k)) (put_below v w list less)
        ∙ elim (cases_Bool (has k w)) [
          | inl first ↦
              let differs : has k v ≡ false = false_from_ne_true (has k v) (λ second.
              let one : cmp k k ≡ Less = sym (ap (λ (h : K). cmp h (key v)) (is.decides k w first) ∙ ap (λ (h : K). cmp k h) (is.decides k v second)) ∙ less in
              let no : true ≡ false = sym (ap is_lt one) ∙ not_below_itself k in
              cc) in
              rw (first, differs) refl
          | inr first ↦ rw first (find-put_sorted k v list ascending.1)
        ]
    | is_it not_below same above ↦
        ap (find (has k)) (put_same v w list not_below same above)
        ∙ elim (cases_Bool (has k v)) [
          | inl first ↦ rw first refl
          | inr first ↦
              let differs : has k w ≡ false = false_from_ne_true (has k w) (λ second.
              let no : true ≡ false = sym (is.decided k v (sym (is.decides (key v) w same) ∙ is.decides k w second)) ∙ first in
              cc) in
              rw (first, differs) refl
        ]
    | is_higher not_below differs above ↦ ap (find (has k)) (put_above v w list not_below above)
  ]

  pub find-dropped : (k : K) (list : List V) → find (has k) (others k list) ≡ None
  find-dropped k [] = refl
  find-dropped k (v ∷ list) = elim (cases_Bool (has k v)) [
    | inl same ↦ rw same (find-dropped k list)
    | inr differs ↦ rw differs (rw differs (find-dropped k list))
  ]

  pub find-drop_other : (j k : K) → (j ≡ k → ⊥) → (list : List V) → find (has k) (others j list) ≡ find (has k) list
  find-drop_other j k other [] = refl
  find-drop_other j k other (v ∷ list) = elim (cases_Bool (has j v)) [
    | inl same ↦
        let differs : has k v ≡ false = false_from_ne_true (has k v) (λ second. other (sym (is.decides j v same) ∙ is.decides k v second)) in
        rw (same, differs) (find-drop_other j k other list)
    | inr differs ↦ rw differs (ap (λ (o : Option V). cond (has k v) (Some v) o) (find-drop_other j k other list))
  ]
