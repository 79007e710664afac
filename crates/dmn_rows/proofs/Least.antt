-- The least of some values is below none of them, and is one of them.
use Rattle.std.proofs.Common.{◌≡◌, false, cond, List, [], ◌∷◌, Option, Some, None, refl, sym, ap, ◌∙◌, inl, inr, subst}
use Rattle.std.specs.List.{AllByRecursion}
use Rattle.std.specs.Cmp.{IsTotalOrder, IsStrictWeakOrder}
use Rattle.std.specs.declared.cmp.Ordering.{Ordering}
use Rattle.std.specs.Ordering.{is_lt}
use Rattle.std.proofs.lemmas.Bool.{cases_Bool}
use Rattle.std.proofs.lemmas.Cmp.{tied_itself}
use Rattle.std.proofs.lemmas.List.Sorted.{ranks_by}
use Rattle.dmn_rows.specs.Ranked.{lesser, least}

module _ {X : Type 0} (cmp : X → X → Ordering) (total : IsTotalOrder cmp) where
  order : IsStrictWeakOrder (λ x y. is_lt (cmp x y))
  order = ranks_by total (λ x. x)

  abbrev pub IsBelowNone : X → List X → Type 0
  IsBelowNone m = AllByRecursion (λ y. is_lt (cmp y m) ≡ false)

  -- what isn't below one isn't below a lesser one
  lowered : (m y : X) (zs : List X) → is_lt (cmp y m) ≡ false → IsBelowNone y zs → IsBelowNone m zs
  lowered m y [] h all = tt
  lowered m y (z ∷ zs) h all = (order.chain z y m all.0 h, lowered m y zs h all.1)

  pub least_below_none : (xs : List X) (m : X) → least cmp xs ≡ Some m → IsBelowNone m xs
  least_below_none [] m is = tt
  least_below_none (x ∷ xs) m is = go (least cmp xs) refl (λ y rest. least_below_none xs y rest)
    where
      none_at_all : (zs : List X) → least cmp zs ≡ None → IsBelowNone m zs
      none_at_all [] none = tt
      none_at_all (z ∷ zs) none = elim (least cmp zs) as (λ o. lesser cmp z o ≡ None → IsBelowNone m (z ∷ zs)) [ None ↦ λ no. absurd cc | Some y ↦ λ no. absurd cc ] none

      go : (o : Option X) → least cmp xs ≡ o → ((y : X) → least cmp xs ≡ Some y → IsBelowNone y xs) → IsBelowNone m (x ∷ xs)
      go None rest below =
          let here : Some x ≡ Some m = ap (lesser cmp x) (sym rest) ∙ is in
          let same : x ≡ m = cc in
          (ap (λ (w : X). is_lt (cmp x w)) (sym same) ∙ ap is_lt (tied_itself total x), none_at_all xs rest)
      go (Some y) rest below =
          let here : Some (cond (is_lt (cmp y x)) y x) ≡ Some m = ap (lesser cmp x) (sym rest) ∙ is in
          elim (cases_Bool (is_lt (cmp y x))) [
            | inl lower ↦
                let chosen : Some y ≡ Some m = sym (ap (λ b. Some (cond b y x)) lower) ∙ here in
                let same : y ≡ m = cc in
                (ap (λ (w : X). is_lt (cmp x w)) (sym same) ∙ order.one_way y x lower, subst (λ (w : X). IsBelowNone w xs) same (below y rest))
            | inr not_lower ↦
                let chosen : Some x ≡ Some m = sym (ap (λ b. Some (cond b y x)) not_lower) ∙ here in
                let same : x ≡ m = cc in
                (ap (λ (w : X). is_lt (cmp x w)) (sym same) ∙ ap is_lt (tied_itself total x), subst (λ (w : X). IsBelowNone w xs) same (lowered x y xs not_lower (below y rest)))
          ]
