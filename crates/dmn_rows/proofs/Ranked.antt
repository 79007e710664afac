-- A list that was sorted is the ranked one, and what holds of ranked lists.
use Rattle.std.proofs.Common.{◌≡◌, ℕ, suc, ◌+◌, Bool, true, false, cond, List, [], ◌∷◌, map, get_or, filter, Option, Some, None, refl, sym, ap, ◌∙◌, inl, inr, subst, arith, zero-add}
use Rattle.std.specs.List.{AllByRecursion, sum_by}
use Rattle.std.specs.List.Sorted.{IsSorted, IsPermutation}
use Rattle.std.specs.Option.{option_map}
use Rattle.std.specs.Cmp.{IsTotalOrder, IsStrictWeakOrder}
use Rattle.std.specs.declared.cmp.Ordering.{Ordering}
use Rattle.std.specs.declared.cmp.Ordering.TheVariants.{Less, Equal, Greater}
use Rattle.std.specs.Ordering.{is_lt, is_eq, ordering_reverse}
use Rattle.std.proofs.lemmas.Bool.{cases_Bool}
use Rattle.std.proofs.lemmas.Cmp.{tied_itself}
use Rattle.std.proofs.lemmas.List.Sums.{sum_by-cons}
use Rattle.std.proofs.lemmas.List.Sorted.{ranks_by, sum_by-IsPermutation}
use Rattle.dmn_rows.specs.Ranked.{lesser, lesser_of, least, insert_ranked, ranked}

-- the first of a list
abbrev pub front : {X : Type 0} → List X → Option X
front [] = None
front (x ∷ xs) = Some x

-- ---- whatever the order

-- the least is the first of the ranked list
pub least_is_front : {X : Type 0} (cmp : X → X → Ordering) (xs : List X) → least cmp xs ≡ front (ranked cmp xs)
least_is_front cmp [] = refl
least_is_front {X} cmp (x ∷ xs) = ap (lesser cmp x) (least_is_front cmp xs) ∙ first (ranked cmp xs)
  where
    first : (ys : List X) → lesser cmp x (front ys) ≡ front (insert_ranked cmp x ys)
    first [] = refl
    first (y ∷ ys) = elim (is_lt (cmp y x)) as (λ b. Some (cond b y x) ≡ front (cond b (y ∷ insert_ranked cmp x ys) (x ∷ y ∷ ys))) [ true ↦ refl | false ↦ refl ]

-- the least by a part of each is the least part
pub least_map : {X Y : Type 0} (cmp : Y → Y → Ordering) (f : X → Y) (xs : List X) → least cmp (map f xs) ≡ option_map f (least (λ a b. cmp (f a) (f b)) xs)
least_map cmp f [] = refl
least_map {X} {Y} cmp f (x ∷ xs) = ap (lesser cmp (f x)) (least_map cmp f xs) ∙ first (least (λ a b. cmp (f a) (f b)) xs)
  where
    first : (o : Option X) → lesser cmp (f x) (option_map f o) ≡ option_map f (lesser (λ a b. cmp (f a) (f b)) x o)
    first None = refl
    first (Some y) = elim (is_lt (cmp (f y) (f x))) as (λ b. Some (cond b (f y) (f x)) ≡ Some (f (cond b y x))) [ true ↦ refl | false ↦ refl ]

inserted_map : {X Y : Type 0} (cmp : Y → Y → Ordering) (f : X → Y) (x : X) (ys : List X) → insert_ranked cmp (f x) (map f ys) ≡ map f (insert_ranked (λ a b. cmp (f a) (f b)) x ys)
inserted_map cmp f x [] = refl
inserted_map cmp f x (y ∷ ys) = elim (is_lt (cmp (f y) (f x))) as (λ b. cond b (f y ∷ insert_ranked cmp (f x) (map f ys)) (f x ∷ f y ∷ map f ys) ≡ map f (cond b (y ∷ insert_ranked (λ a b. cmp (f a) (f b)) x ys) (x ∷ y ∷ ys))) [
  | true ↦ ap (λ l. f y ∷ l) (inserted_map cmp f x ys)
  | false ↦ refl
]

-- values ranked by a part of each are that part, ranked
pub ranked_map : {X Y : Type 0} (cmp : Y → Y → Ordering) (f : X → Y) (xs : List X) → ranked cmp (map f xs) ≡ map f (ranked (λ a b. cmp (f a) (f b)) xs)
ranked_map cmp f [] = refl
ranked_map cmp f (x ∷ xs) = ap (insert_ranked cmp (f x)) (ranked_map cmp f xs) ∙ inserted_map cmp f x (ranked (λ a b. cmp (f a) (f b)) xs)

sum_inserted : {X : Type 0} (cmp : X → X → Ordering) (f : X → ℕ) (x : X) (ys : List X) → sum_by f (insert_ranked cmp x ys) ≡ f x + sum_by f ys
sum_inserted cmp f x [] = sum_by-cons f x []
sum_inserted cmp f x (y ∷ ys) = elim (is_lt (cmp y x)) as (λ b. sum_by f (cond b (y ∷ insert_ranked cmp x ys) (x ∷ y ∷ ys)) ≡ f x + sum_by f (y ∷ ys)) [
  | true ↦ omega (arith, sum_by-cons f y (insert_ranked cmp x ys), sum_inserted cmp f x ys, sum_by-cons f y ys)
  | false ↦ sum_by-cons f x (y ∷ ys)
]

-- a ranked list has the same values
pub sum_ranked : {X : Type 0} (cmp : X → X → Ordering) (f : X → ℕ) (xs : List X) → sum_by f (ranked cmp xs) ≡ sum_by f xs
sum_ranked cmp f [] = refl
sum_ranked cmp f (x ∷ xs) = omega (arith, sum_inserted cmp f x (ranked cmp xs), sum_ranked cmp f xs, sum_by-cons f x xs)

pub lesser_of_none : {X : Type 0} (cmp : X → X → Ordering) (o : Option X) → lesser_of cmp o None ≡ o
lesser_of_none cmp None = refl
lesser_of_none cmp (Some x) = refl

lesser_assoc : {X : Type 0} (cmp : X → X → Ordering) → IsTotalOrder cmp → (x y : X) (rest : Option X) → lesser cmp (cond (is_lt (cmp y x)) y x) rest ≡ lesser cmp x (lesser cmp y rest)
lesser_assoc {X} cmp total x y None = elim (is_lt (cmp y x)) as (λ b. lesser cmp (cond b y x) None ≡ Some (cond b y x)) [ true ↦ refl | false ↦ refl ]
lesser_assoc {X} cmp total x y (Some z) = elim (cases_Bool (is_lt (cmp z y))) [
  | inl zy ↦ elim (cases_Bool (is_lt (cmp y x))) [
    | inl yx ↦ let zx : is_lt (cmp z x) ≡ true = across zy yx in rw (yx, zy) (rw zx refl)
    | inr yx ↦ rw (yx, zy) refl
  ]
  | inr zy ↦ elim (cases_Bool (is_lt (cmp y x))) [
    | inl yx ↦ rw (yx, zy) (rw yx refl)
    | inr yx ↦ let zx : is_lt (cmp z x) ≡ false = order.chain z y x zy yx in rw (yx, zy) (rw (yx, zx) refl)
  ]
]
  where
    order : IsStrictWeakOrder (λ x y. is_lt (cmp x y))
    order = ranks_by total (λ x. x)

    across : is_lt (cmp z y) ≡ true → is_lt (cmp y x) ≡ true → is_lt (cmp z x) ≡ true
    across zy yx = elim (cases_Bool (is_lt (cmp z x))) [
      | inl zx ↦ zx
      | inr zx ↦ let no : true ≡ false = sym zy ∙ order.chain z x y zx (order.one_way y x yx) in cc
    ]

-- the least so far, and one value more
pub lesser_more : {X : Type 0} (cmp : X → X → Ordering) → IsTotalOrder cmp → (o : Option X) (y : X) (rest : Option X) → lesser_of cmp (lesser_of cmp o (Some y)) rest ≡ lesser_of cmp o (lesser cmp y rest)
lesser_more cmp total None y rest = refl
lesser_more cmp total (Some x) y rest = lesser_assoc cmp total x y rest

-- ---- in an order in which only equal values tie

module _ {X : Type 0} (cmp : X → X → Ordering) (total : IsTotalOrder cmp) (exact : (x y : X) → cmp x y ≡ Equal → x ≡ y) where
  -- none is below the value
  abbrev NoneBelow : X → List X → Type 0
  NoneBelow x = AllByRecursion (λ y. is_lt (cmp y x) ≡ false)

  -- none is below one that stands before it
  abbrev pub Rises : List X → Type 0
  Rises [] = Unit {0}
  Rises (x ∷ xs) = NoneBelow x xs × Rises xs

  order : IsStrictWeakOrder (λ x y. is_lt (cmp x y))
  order = ranks_by total (λ x. x)

  none_below : (x y : X) (zs : List X) → is_lt (cmp y x) ≡ false → NoneBelow y zs → NoneBelow x zs
  none_below x y [] h all = tt
  none_below x y (z ∷ zs) h all = (order.chain z y x all.0 h, none_below x y zs h all.1)

  inserted_all : (P : X → Type 0) (x : X) (ys : List X) → P x → AllByRecursion P ys → AllByRecursion P (insert_ranked cmp x ys)
  inserted_all P x [] px all = (px, tt)
  inserted_all P x (y ∷ ys) px all = elim (is_lt (cmp y x)) as (λ b. AllByRecursion P (cond b (y ∷ insert_ranked cmp x ys) (x ∷ y ∷ ys))) [
    | true ↦ (all.0, inserted_all P x ys px all.1)
    | false ↦ (px, all)
  ]

  rises_inserted : (x : X) (ys : List X) → Rises ys → Rises (insert_ranked cmp x ys)
  rises_inserted x [] rises = (tt, tt)
  rises_inserted x (y ∷ ys) rises = elim (cases_Bool (is_lt (cmp y x))) [
    | inl below ↦ rw below (inserted_all (λ z. is_lt (cmp z y) ≡ false) x ys (order.one_way y x below) rises.0, rises_inserted x ys rises.1)
    | inr not_below ↦ rw not_below ((not_below, none_below x y ys not_below rises.0), rises)
  ]

  pub rises_ranked : (xs : List X) → Rises (ranked cmp xs)
  rises_ranked [] = tt
  rises_ranked (x ∷ xs) = rises_inserted x (ranked cmp xs) (rises_ranked xs)

  rises_from : (x : X) (xs : List X) → IsSorted cmp (x ∷ xs) → Rises (x ∷ xs)
  rises_from x [] sorted = (tt, tt)
  rises_from x (y ∷ ys) sorted =
      let first : is_lt (cmp y x) ≡ false = sorted 0 x (omega arith) (omega arith) in
      let rest = rises_from y ys (λ k d low high.
      let at : suc k + 1 ≡ suc (k + 1) = omega arith in
      subst (λ (n : ℕ). is_lt (cmp (get_or (x ∷ y ∷ ys) n d) (get_or (y ∷ ys) k d)) ≡ false) at (sorted (suc k) d (omega arith) (omega (arith, high)))) in
      ((first, none_below x y ys first rest.0), rest)

  rises_sorted : (xs : List X) → IsSorted cmp xs → Rises xs
  rises_sorted [] sorted = tt
  rises_sorted (x ∷ xs) sorted = rises_from x xs sorted

  -- how many are the value
  abbrev times : X → List X → ℕ
  times v = sum_by (λ y. cond (is_eq (cmp v y)) 1 0)

  times_here : (x : X) (xs : List X) → times x (x ∷ xs) ≡ 1 + times x xs
  times_here x xs = sum_by-cons (λ y. cond (is_eq (cmp x y)) 1 0) x xs ∙ ap (λ o. cond (is_eq o) 1 0 + times x xs) (tied_itself total x)

  -- a value that is below one below which there are none isn't there
  not_there : (x y : X) (zs : List X) → is_lt (cmp x y) ≡ true → NoneBelow y zs → times x zs ≡ 0
  not_there x y [] below none = refl
  not_there x y (z ∷ zs) below none =
      sum_by-cons (λ w. cond (is_eq (cmp x w)) 1 0) z zs
      ∙ elim (cases_Bool (is_eq (cmp x z))) [
        | inl same ↦
            let equal : x ≡ z = exact x z (equal_from (cmp x z) same) in
            let no : true ≡ false = sym below ∙ ap (λ (w : X). is_lt (cmp w y)) equal ∙ none.0 in
            cc
        | inr differs ↦ rw differs (zero-add (times x zs) ∙ not_there x y zs below none.1)
      ]
    where
      equal_from : (o : Ordering) → is_eq o ≡ true → o ≡ Equal
      equal_from Less h = cc
      equal_from Equal h = refl
      equal_from Greater h = cc

  not_below_itself : (x : X) → is_lt (cmp x x) ≡ false
  not_below_itself x = ap is_lt (tied_itself total x)

  -- a list that rises is determined by its values
  rises_once : (xs ys : List X) → Rises xs → Rises ys → ((v : X) → times v xs ≡ times v ys) → xs ≡ ys
  rises_once [] [] p q same = refl
  rises_once [] (y ∷ ys) p q same = absurd (omega (arith, same y, times_here y ys))
  rises_once (x ∷ xs) [] p q same = absurd (omega (arith, same x, times_here x xs))
  rises_once (x ∷ xs) (y ∷ ys) p q same =
      ap (λ (v : X). v ∷ xs) heads ∙ ap (λ (l : List X). y ∷ l) (rises_once xs ys p.1 q.1 tails)
    where
      heads : x ≡ y
      heads = elim (cases_Bool (is_lt (cmp x y))) [
        | inl below ↦ absurd (omega (arith, same x, times_here x xs, not_there x y (y ∷ ys) below (not_below_itself y, q.0)))
        | inr not_below ↦ elim (cases_Bool (is_lt (cmp y x))) [
          | inl above ↦ absurd (omega (arith, same y, times_here y ys, not_there y x (x ∷ xs) above (not_below_itself x, p.0)))
          | inr not_above ↦ exact x y (tied (cmp x y) (cmp y x) (total.antisymm x y) not_below not_above)
        ]
      ]
        where
          tied : (o r : Ordering) → o ≡ ordering_reverse r → is_lt o ≡ false → is_lt r ≡ false → o ≡ Equal
          tied Less r e a b = cc
          tied Equal r e a b = refl
          tied Greater Less e a b = cc
          tied Greater Equal e a b = cc
          tied Greater Greater e a b = cc

      tails : (v : X) → times v xs ≡ times v ys
      tails v =
          let here : times v (x ∷ xs) ≡ times v (y ∷ xs) = ap (λ (w : X). times v (w ∷ xs)) heads in
          omega (arith, same v, here, sum_by-cons (λ w. cond (is_eq (cmp v w)) 1 0) y xs, sum_by-cons (λ w. cond (is_eq (cmp v w)) 1 0) y ys)

  -- what a sort gives is the ranked list
  pub sorted_is_ranked : (xs ys : List X) → IsPermutation xs ys → IsSorted cmp ys → ys ≡ ranked cmp xs
  sorted_is_ranked xs ys permutation sorted =
      rises_once ys (ranked cmp xs) (rises_sorted ys sorted) (rises_ranked xs)
      (λ v. sum_by-IsPermutation (λ y. cond (is_eq (cmp v y)) 1 0) xs ys permutation ∙ sym (sum_ranked cmp (λ y. cond (is_eq (cmp v y)) 1 0) xs))

  -- ---- what a test keeps

  inserted_in_front : (x : X) (ys : List X) → NoneBelow x ys → insert_ranked cmp x ys ≡ x ∷ ys
  inserted_in_front x [] none = refl
  inserted_in_front x (y ∷ ys) none = rw none.0 refl

  none_below_kept : (p : X → Bool) (x : X) (ys : List X) → NoneBelow x ys → NoneBelow x (filter p ys)
  none_below_kept p x [] none = tt
  none_below_kept p x (y ∷ ys) none = elim (p y) as (λ b. NoneBelow x (cond b (y ∷ filter p ys) (filter p ys))) [ true ↦ (none.0, none_below_kept p x ys none.1) | false ↦ none_below_kept p x ys none.1 ]

  inserted_kept : (p : X → Bool) (x : X) (ys : List X) → Rises ys → p x ≡ true → filter p (insert_ranked cmp x ys) ≡ insert_ranked cmp x (filter p ys)
  inserted_kept p x [] rises keeps = rw keeps refl
  inserted_kept p x (y ∷ ys) rises keeps = elim (cases_Bool (is_lt (cmp y x))) [
    | inl below ↦ elim (cases_Bool (p y)) [
      | inl first ↦ rw (below, first) (rw below (ap (λ (l : List X). y ∷ l) (inserted_kept p x ys rises.1 keeps)))
      | inr first ↦ rw (below, first) (inserted_kept p x ys rises.1 keeps)
    ]
    | inr not_below ↦
        rw (not_below, keeps) (sym (inserted_in_front x (filter p (y ∷ ys)) (none_below_kept p x (y ∷ ys) (not_below, none_below x y ys not_below rises.0))))
  ]

  inserted_dropped : (p : X → Bool) (x : X) (ys : List X) → p x ≡ false → filter p (insert_ranked cmp x ys) ≡ filter p ys
  inserted_dropped p x [] drops = rw drops refl
  inserted_dropped p x (y ∷ ys) drops = elim (cases_Bool (is_lt (cmp y x))) [
    | inl below ↦ rw below (ap (λ (l : List X). cond (p y) (y ∷ l) l) (inserted_dropped p x ys drops))
    | inr not_below ↦ rw (not_below, drops) refl
  ]

  -- a ranked list with some left out is the ranked list of the others
  pub ranked_kept : (p : X → Bool) (xs : List X) → filter p (ranked cmp xs) ≡ ranked cmp (filter p xs)
  ranked_kept p [] = refl
  ranked_kept p (x ∷ xs) = elim (cases_Bool (p x)) [
    | inl keeps ↦ rw keeps (inserted_kept p x (ranked cmp xs) (rises_ranked xs) keeps ∙ ap (insert_ranked cmp x) (ranked_kept p xs))
    | inr drops ↦ rw drops (inserted_dropped p x (ranked cmp xs) drops ∙ ranked_kept p xs)
  ]
