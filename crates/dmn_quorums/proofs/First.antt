-- A loop that looks for the first of a list of which a rule is broken.
use Rattle.std.proofs.Common.{◌≡◌, ℕ, ◌<◌, ◌≤◌, List, map, length, get_or, drop, Option, None, Some, refl, sym, ap, ◌∙◌, drop-cons}
use Rattle.std.proofs.lemmas.List.{drop_all}
use Rattle.dmn_rows.specs.Table.{first_broken}

pub broken_here : {A B : Type 0} (f : A → Option B) (xs : List A) (i : ℕ) (d : A) (found : Option B) (rule : B) → i < length xs → found ≡ f (get_or xs i d) → found ≡ Some rule → first_broken (map f (drop i xs)) ≡ Some rule
broken_here f xs i d found rule lt is some = ap (λ l. first_broken (map f l)) (drop-cons xs i d lt) ∙ rw (sym is ∙ some) refl

pub broken_nowhere : {A B : Type 0} (f : A → Option B) (xs : List A) (i : ℕ) → length xs ≤ i → first_broken (map f (drop i xs)) ≡ None
broken_nowhere f xs i le = ap (λ l. first_broken (map f l)) (drop_all i xs le)
