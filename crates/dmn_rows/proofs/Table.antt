-- Tables that are judged one after another.
use Rattle.std.proofs.Common.{◌≡◌, ℕ, List, [], ◌∷◌, ◌++◌, Option, Some, None, refl}
use Rattle.std.specs.Option.{option_or}
use Rattle.dmn_rows.specs.Table.{unnumbered, first_broken}

-- the first broken rule of two tables is the first one's, or else the second one's
pub first_broken_append : {X : Type 0} (xs ys : List (ℕ × Option X)) → first_broken (unnumbered (xs ++ ys)) ≡ option_or (first_broken (unnumbered xs)) (first_broken (unnumbered ys))
first_broken_append [] ys = refl
first_broken_append (x ∷ xs) ys = elim x.1 as (λ o. first_broken (o ∷ unnumbered (xs ++ ys)) ≡ option_or (first_broken (o ∷ unnumbered xs)) (first_broken (unnumbered ys))) [ Some refusal ↦ refl | None ↦ first_broken_append xs ys ]
