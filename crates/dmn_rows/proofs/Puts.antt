-- Values that are put one after another in the order of their keys are the ranked values.
use Rattle.std.proofs.Common.{◌≡◌, Bool, true, false, cond, List, [], ◌∷◌, find, None, Some, refl, sym, ap, ◌∙◌}
use Rattle.std.specs.Ordering.{is_lt}
use Rattle.std.specs.declared.cmp.Ordering.{Ordering}
use Rattle.dmn_rows.specs.Distinct.{AreDistinct}
use Rattle.dmn_rows.specs.Ranked.{insert_ranked, ranked}
use Rattle.dmn_rows.specs.Sorted.{IsKey, Ascends, put_sorted}
use Rattle.dmn_rows.proofs.Lookups.{none_parts}
use Rattle.dmn_rows.proofs.Sorted.{is_lower, is_it, is_higher, meets, put_below, put_above, find-put_sorted, Ascends-put_sorted}

module _ {K V : Type 0} (cmp : K → K → Ordering) (key : V → K) (has : K → V → Bool) (is : IsKey cmp key has) where
  -- the values in the order of their keys
  abbrev pub by_key : V → V → Ordering
  by_key v w = cmp (key v) (key w)

  insert_is_put : (v : V) (list : List V) → Ascends cmp key list → find (has (key v)) list ≡ None → insert_ranked by_key v list ≡ put_sorted cmp key v list
  insert_is_put v [] ascending none = refl
  insert_is_put v (w ∷ list) ascending none = elim (meets cmp key has is (key v) w list ascending) [
    | is_lower less ↦
        ap (λ b. cond b (w ∷ insert_ranked by_key v list) (v ∷ w ∷ list)) (ap is_lt less)
        ∙ ap (λ (l : List V). w ∷ l) (insert_is_put v list ascending.1 (none_parts (has (key v)) w list none).1)
        ∙ sym (put_below cmp key has is v w list less)
    | is_it not_below same above ↦ let no : true ≡ false = sym same ∙ (none_parts (has (key v)) w list none).0 in cc
    | is_higher not_below differs above ↦
        ap (λ b. cond b (w ∷ insert_ranked by_key v list) (v ∷ w ∷ list)) not_below
        ∙ sym (put_above cmp key has is v w list not_below above)
  ]

  -- each value is put into the list of the others
  abbrev pub puts : List V → List V
  puts [] = []
  puts (v ∷ list) = put_sorted cmp key v (puts list)

  pub puts_ascend : (list : List V) → Ascends cmp key (puts list)
  puts_ascend [] = tt
  puts_ascend (v ∷ list) = Ascends-put_sorted cmp key has is v (puts list) (puts_ascend list)

  none_put : (k : K) (list : List V) → find (has k) list ≡ None → find (has k) (puts list) ≡ None
  none_put k [] none = refl
  none_put k (v ∷ list) none =
      let parts = none_parts (has k) v list none in
      find-put_sorted cmp key has is k v (puts list) (puts_ascend list)
      ∙ ap (λ b. cond b (Some v) (find (has k) (puts list))) parts.0
      ∙ none_put k list parts.1

  -- of distinct keys
  pub ranked_is_puts : (list : List V) → AreDistinct (λ v. has (key v)) list → ranked by_key list ≡ puts list
  ranked_is_puts [] distinct = refl
  ranked_is_puts (v ∷ list) distinct =
      ap (insert_ranked by_key v) (ranked_is_puts list distinct.1)
      ∙ insert_is_put v (puts list) (puts_ascend list) (none_put (key v) list distinct.0)
