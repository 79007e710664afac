-- Values in the order of their rank: the least of some values, and all of them, the least first.
use Rattle.std.specs.Prelude.{List, [], ◌∷◌, Option, None, Some, if◌then◌else◌}
use Rattle.std.specs.Ordering.{is_lt}
use Rattle.std.specs.declared.cmp.Ordering.{Ordering}

-- the lesser of two; the first where they tie
abbrev pub lesser : {X : Type 0} → (X → X → Ordering) → X → Option X → Option X
lesser cmp x None = Some x
lesser cmp x (Some y) = Some (if is_lt (cmp y x) then y else x)

-- the lesser of two, either of which there may not be
abbrev pub lesser_of : {X : Type 0} → (X → X → Ordering) → Option X → Option X → Option X
lesser_of cmp None other = other
lesser_of cmp (Some x) other = lesser cmp x other

-- the least of some values, where there is one
abbrev pub least : {X : Type 0} → (X → X → Ordering) → List X → Option X
least cmp [] = None
least cmp (x ∷ xs) = lesser cmp x (least cmp xs)

-- a value is inserted behind those of lower rank
abbrev pub insert_ranked : {X : Type 0} → (X → X → Ordering) → X → List X → List X
insert_ranked cmp x [] = x ∷ []
insert_ranked cmp x (y ∷ ys) = if is_lt (cmp y x) then y ∷ insert_ranked cmp x ys else x ∷ y ∷ ys

-- each value is inserted into the list of the others
abbrev pub ranked : {X : Type 0} → (X → X → Ordering) → List X → List X
ranked cmp [] = []
ranked cmp (x ∷ xs) = insert_ranked cmp x (ranked cmp xs)
