-- The values of the fields of one name, field by field.
use Rattle.std.proofs.Common.{◌≡◌, ℕ, Bool, true, false, cond, List, [], ◌∷◌, ◌++◌, refl, ap, ◌∙◌, append-nil}
use Rattle.std.specs.Prelude.{map, filter}
use Rattle.std.specs.Str.{str_eq_ignore_ascii_case}
use Rattle.std.proofs.lemmas.List.{map-append}
use Rattle.std.proofs.lemmas.List.Elements.{filter-append}
use Rattle.dmn_head.specs.Fields.{values_of}

abbrev pub Pair : Type 0
Pair = List ℕ × List ℕ

abbrev pub value_in : Pair → List ℕ
value_in f = f.1

one : (hit : Bool) (values : List (List ℕ)) (f : Pair) → values ++ map value_in (cond hit (f ∷ []) []) ≡ cond hit (values ++ f.1 ∷ []) values
one true values f = refl
one false values f = append-nil values

pub values_more : (name : List ℕ) (fields : List Pair) (f : Pair) → values_of name (fields ++ f ∷ []) ≡ cond (str_eq_ignore_ascii_case name f.0) (values_of name fields ++ f.1 ∷ []) (values_of name fields)
values_more name fields f =
    let p : Pair → Bool = λ (f : Pair). str_eq_ignore_ascii_case name f.0 in
    ap (map value_in) (filter-append p fields (f ∷ [])) ∙ map-append value_in (filter p fields) (filter p (f ∷ [])) ∙ one (p f) (values_of name fields) f
