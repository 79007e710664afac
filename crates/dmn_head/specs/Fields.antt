-- The fields of a head, by their names.
use Rattle.std.specs.Prelude.{◌≡◌, ℕ, ◌<◌, ◌≤◌, Bool, List, [], ◌∷◌, ◌++◌, map, filter, if◌then◌else◌}
use Rattle.std.specs.Str.{str_eq_ignore_ascii_case}
use Rattle.std.specs.Str.Parse.{digits_value, IsNumeral}
use Rattle.dmn_head.specs.declared.fields.Found.{Found}
use Rattle.dmn_head.specs.declared.fields.Found.TheVariants as founds
use Rattle.dmn_head.specs.declared.fields.Size.{Size}
use Rattle.dmn_head.specs.declared.fields.Size.TheVariants as sizes

-- the values of the fields of this name, in any case
abbrev pub values_of : List ℕ → List (List ℕ × List ℕ) → List (List ℕ)
values_of name fields = map (λ (f : List ℕ × List ℕ). f.1) (filter (λ (f : List ℕ × List ℕ). str_eq_ignore_ascii_case name f.0) fields)

abbrev pub Finds : List (List ℕ) → Found → Type 0
Finds [] founds.Nothing = Unit {0}
Finds [] (founds.One value) = ⊥
Finds [] founds.Several = ⊥
Finds (v ∷ []) founds.Nothing = ⊥
Finds (v ∷ []) (founds.One value) = value.now ≡ v
Finds (v ∷ []) founds.Several = ⊥
Finds (v ∷ w ∷ more) founds.Nothing = ⊥
Finds (v ∷ w ∷ more) (founds.One value) = ⊥
Finds (v ∷ w ∷ more) founds.Several = Unit {0}

abbrev pub Steps : Found → Bool → List ℕ → Found → Type 0
Steps old hit value new = (values : List (List ℕ)) → Finds values old → Finds (if hit then values ++ value ∷ [] else values) new

-- the largest body
abbrev pub body_limit : ℕ
body_limit = 16777216

-- one or more decimal digits, up to the limit
abbrev pub SizeIs : List ℕ → Size → Type 0
SizeIs value (sizes.Of size) = IsNumeral 10 value × (size ≡ digits_value 10 value) × (size ≤ body_limit)
SizeIs value sizes.TooLong = IsNumeral 10 value × (body_limit < digits_value 10 value)
SizeIs value sizes.NoNumber = ¬ (IsNumeral 10 value)
