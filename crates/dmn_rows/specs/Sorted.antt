-- Lists in strictly ascending order of a key, and their changes.
use Rattle.std.specs.Prelude.{◌≡◌, ℕ, suc, Bool, true, false, List, [], ◌∷◌, ◌++◌, filter, find, is_some, slice_get, if◌then◌else◌}
use Rattle.std.specs.Cmp.{IsTotalOrder}
use Rattle.std.specs.List.{AllByRecursion}
use Rattle.std.specs.Option.{option_map_or}
use Rattle.std.specs.Ordering.{is_lt}
use Rattle.std.specs.declared.cmp.Ordering.{Ordering}
use Rattle.std.specs.declared.cmp.Ordering.TheVariants.{Less, Equal}

-- an order in which only equal keys tie, and a test that a value has a key
pub record IsKey {K V : Type 0} (cmp : K → K → Ordering) (key : V → K) (has : K → V → Bool) : Type 0 where
  pub total : IsTotalOrder cmp
  pub exact : (a b : K) → cmp a b ≡ Equal → a ≡ b
  pub decides : (k : K) (v : V) → has k v ≡ true → key v ≡ k
  pub decided : (k : K) (v : V) → key v ≡ k → has k v ≡ true

-- all keys are above this one
abbrev pub IsAbove : {K V : Type 0} → (K → K → Ordering) → (V → K) → K → List V → Type 0
IsAbove cmp key k = AllByRecursion (λ v. cmp k (key v) ≡ Less)

-- each key is below all that follow it
abbrev pub Ascends : {K V : Type 0} → (K → K → Ordering) → (V → K) → List V → Type 0
Ascends cmp key [] = Unit {0}
Ascends cmp key (v ∷ rest) = IsAbove cmp key (key v) rest × Ascends cmp key rest

-- the value stands behind those of lower keys and before those of higher ones, and no other has its key
abbrev pub put_sorted : {K V : Type 0} → (K → K → Ordering) → (V → K) → V → List V → List V
put_sorted cmp key v list = filter (λ w. is_lt (cmp (key w) (key v))) list ++ v ∷ filter (λ w. is_lt (cmp (key v) (key w))) list

-- the value is put in its place; where one has its key already, that stays
abbrev pub add_sorted : {K V : Type 0} → (K → K → Ordering) → (V → K) → (K → V → Bool) → V → List V → List V
add_sorted cmp key has v list = if is_some (find (has (key v)) list) then list else put_sorted cmp key v list

-- how many values at the front have a lower key
abbrev pub place_in : {K V : Type 0} → (K → K → Ordering) → (V → K) → K → List V → ℕ
place_in cmp key k [] = 0
place_in cmp key k (v ∷ rest) = if is_lt (cmp (key v) k) then suc (place_in cmp key k rest) else 0

-- the value at a place passes the test
abbrev pub passes_at : {V : Type 0} → (V → Bool) → List V → ℕ → Bool
passes_at test list at = option_map_or test (slice_get list at) false
