-- The broken rules of a table by their numbers.
use Rattle.std.specs.Prelude.{◌≡◌, ℕ, ◌≤◌, [], ◌∷◌, Option, Some, None, ◌⊎◌}
use Rattle.dmn_rows.specs.Table.{Table}

-- the rule beside this number is broken, with this refusal
abbrev pub Has : {X : Type 0} → Table X → ℕ → X → Type 0
Has [] n refusal = ⊥
Has (e ∷ rest) n refusal = ((e.0 ≡ n) × (e.1 ≡ Some refusal)) ⊎ Has rest n refusal

-- The rule is broken, and none with a lower number. Each broken rule stands beside its own number.
pub record IsLeast {X : Type 0} (number : X → ℕ) (rules : Table X) (refusal : X) : Type 0 where
  pub has : Has rules (number refusal) refusal
  pub least : (n : ℕ) (other : X) → Has rules n other → number refusal ≤ n
  pub own : (n : ℕ) (other : X) → Has rules n other → n ≡ number other

-- what is told is the broken rule with the least number, or that none is broken
abbrev pub TellsLeast : {X : Type 0} → (X → ℕ) → Table X → Option X → Type 0
TellsLeast {X} number rules None = (n : ℕ) (refusal : X) → Has rules n refusal → ⊥
TellsLeast number rules (Some refusal) = IsLeast number rules refusal
