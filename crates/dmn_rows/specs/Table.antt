-- Tables of rules: a numbered line each, in the order of the numbers. X is what the refusal by a broken rule tells.
use Rattle.std.specs.Prelude.{ℕ, Bool, List, [], ◌∷◌, map, Option, Some, None, if◌then◌else◌}

-- each rule is broken with a refusal, or isn't
abbrev pub Table : Type 0 → Type 0
Table X = List (ℕ × Option X)

-- a rule that is broken where the test holds
abbrev pub when : {X : Type 0} → Bool → X → Option X
when broken refusal = if broken then Some refusal else None

abbrev pub unnumbered : {X : Type 0} → List (ℕ × Option X) → List (Option X)
unnumbered = map (λ e. e.1)

abbrev pub first_broken : {X : Type 0} → List (Option X) → Option X
first_broken [] = None
first_broken (Some refusal ∷ rest) = Some refusal
first_broken (None ∷ rest) = first_broken rest

-- the first broken rule of a table
abbrev pub first_of : {X : Type 0} → Table X → Option X
first_of rules = first_broken (unnumbered rules)
