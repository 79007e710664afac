-- Lists that ascend, walked together from their fronts.
use Rattle.std.proofs.Common.{◌≡◌, ℕ, zero, suc, ◌+◌, ◌≤◌, Bool, true, false, not, cond, List, [], ◌∷◌, length, drop, map, filter, find, ◌||◌, refl, sym, ap, ◌∙◌, inl, inr, subst, arith}
use Rattle.std.specs.Prelude.{is_some}
use Rattle.std.specs.Option.{option_map_or}
use Rattle.std.specs.List.{list_any, AllByRecursion}
use Rattle.std.specs.declared.cmp.Ordering.{Ordering}
use Rattle.std.specs.declared.cmp.Ordering.TheVariants.{Less, Equal, Greater}
use Rattle.std.specs.Ordering.{is_lt, ordering_reverse}
use Rattle.std.proofs.lemmas.Bool.{cases_Bool, false_from_ne_true}
use Rattle.dmn_rows.specs.Sorted.{IsKey, IsAbove, Ascends, put_sorted}
use Rattle.dmn_rows.proofs.Sorted.{less_from, is_some-find, not_above, differs_below, differs_above, above_lower, put_below, put_same, put_above, Ascends-filter, Ascends-put_sorted}
use Rattle.dmn_diff.specs.Change.{gone_by, fresh_by, deletes, puts}

module _ {K V : Type 0} (cmp : K → K → Ordering) (key : V → K) (has : K → V → Bool) (is : IsKey cmp key has) (same : V → V → Bool) (same_is : (a b : V) → same a b ≡ true → a ≡ b) where
  -- ---- the order of two keys

  pub data Compared (a b : K) : Type 0 where
    lower : cmp a b ≡ Less → Compared a b
    equal : a ≡ b → Compared a b
    higher : cmp b a ≡ Less → Compared a b

  by_order : (a b : K) (o : Ordering) → cmp a b ≡ o → Compared a b
  by_order a b Less e = lower e
  by_order a b Equal e = equal (is.exact a b e)
  by_order a b Greater e = higher (is.total.antisymm b a ∙ ap ordering_reverse e)

  pub compared : (a b : K) → Compared a b
  compared a b = by_order a b (cmp a b) refl

  -- the keys of hashes are above a key
  abbrev pub KeysAbove : K → List K → Type 0
  KeysAbove k = AllByRecursion (λ h. cmp k h ≡ Less)

  -- ---- what isn't there

  none_has : (k : K) (list : List V) → IsAbove cmp key k list → list_any (has k) list ≡ false
  none_has k [] above = refl
  none_has k (v ∷ list) above = rw (differs_above cmp key has is k v above.0) (none_has k list above.1)

  differ : (a b : V) → cmp (key a) (key b) ≡ Less → same a b ≡ false
  differ a b less = false_from_ne_true (same a b) (λ e.
      let h : has (key a) b ≡ true = is.decided (key a) b (ap key (sym (same_is a b e))) in
      let no : has (key a) b ≡ false = differs_above cmp key has is (key a) b less in
      cc)

  differ_back : (a b : V) → cmp (key b) (key a) ≡ Less → same a b ≡ false
  differ_back a b less = false_from_ne_true (same a b) (λ e.
      let h : has (key a) b ≡ true = is.decided (key a) b (ap key (sym (same_is a b e))) in
      let no : has (key a) b ≡ false = differs_below cmp key has is (key a) b less in
      cc)

  none_same : (v : V) (list : List V) → IsAbove cmp key (key v) list → list_any (same v) list ≡ false
  none_same v [] above = refl
  none_same v (w ∷ list) above = rw (differ v w above.0) (none_same v list above.1)

  pub filter_above : (test : V → Bool) (k : K) (list : List V) → IsAbove cmp key k list → IsAbove cmp key k (filter test list)
  filter_above test k [] above = tt
  filter_above test k (v ∷ list) above = elim (test v) as (λ b. IsAbove cmp key k (cond b (v ∷ filter test list) (filter test list))) [ true ↦ (above.0, filter_above test k list above.1) | false ↦ filter_above test k list above.1 ]

  pub keys_above : (k : K) (list : List V) → IsAbove cmp key k list → KeysAbove k (map key list)
  keys_above k [] above = tt
  keys_above k (v ∷ list) above = (above.0, keys_above k list above.1)

  pub gone_above : (k : K) (base target : List V) → IsAbove cmp key k base → KeysAbove k (gone_by key has base target)
  gone_above k base target above = keys_above k _ (filter_above (λ b. not (list_any (has (key b)) target)) k base above)

  -- ---- what is gone, and what is new

  -- the front of base is below all of target
  pub gone_lower : (b : V) (base target : List V) → IsAbove cmp key (key b) target → gone_by key has (b ∷ base) target ≡ key b ∷ gone_by key has base target
  gone_lower b base target above = rw (none_has (key b) target above) refl

  pub fresh_lower : (b : V) (base target : List V) → IsAbove cmp key (key b) target → fresh_by same (b ∷ base) target ≡ fresh_by same base target
  fresh_lower b base [] above = refl
  fresh_lower b base (t ∷ target) above =
      rw (differ_back t b above.0) (ap (λ (l : List V). cond (not (list_any (same t) base)) (t ∷ l) l) (fresh_lower b base target above.1))

  -- the front of target is below all of base
  left_higher : (t : V) (base target : List V) → IsAbove cmp key (key t) base → filter (λ b. not (list_any (has (key b)) (t ∷ target))) base ≡ filter (λ b. not (list_any (has (key b)) target)) base
  left_higher t [] target above = refl
  left_higher t (b ∷ base) target above =
      rw (differs_below cmp key has is (key b) t above.0) (ap (λ (l : List V). cond (not (list_any (has (key b)) target)) (b ∷ l) l) (left_higher t base target above.1))

  pub gone_higher : (t : V) (base target : List V) → IsAbove cmp key (key t) base → gone_by key has base (t ∷ target) ≡ gone_by key has base target
  gone_higher t base target above = ap (map key) (left_higher t base target above)

  pub fresh_higher : (t : V) (base target : List V) → IsAbove cmp key (key t) base → fresh_by same base (t ∷ target) ≡ t ∷ fresh_by same base target
  fresh_higher t base target above = rw (none_same t base above) refl

  -- both fronts have one key
  pub gone_equal : (b t : V) (base target : List V) → key b ≡ key t → IsAbove cmp key (key b) base → gone_by key has (b ∷ base) (t ∷ target) ≡ gone_by key has base target
  gone_equal b t base target e above =
      let h : has (key b) t ≡ true = is.decided (key b) t (sym e) in
      rw h (gone_higher t base target (subst (λ (k : K). IsAbove cmp key k base) e above))

  pub fresh_kept : (b t : V) (base target : List V) → same t b ≡ true → IsAbove cmp key (key b) target → fresh_by same (b ∷ base) (t ∷ target) ≡ fresh_by same base target
  fresh_kept b t base target e above = rw e (fresh_lower b base target above)

  pub fresh_changed : (b t : V) (base target : List V) → same t b ≡ false → IsAbove cmp key (key t) base → IsAbove cmp key (key b) target → fresh_by same (b ∷ base) (t ∷ target) ≡ t ∷ fresh_by same base target
  fresh_changed b t base target e above_t above_b =
      rw (e, none_same t base above_t) (ap (λ (l : List V). t ∷ l) (fresh_lower b base target above_b))

  -- ---- a list after a change

  pub deletes_none : (ks : List K) → deletes has ks [] ≡ []
  deletes_none [] = refl
  deletes_none (k ∷ ks) = deletes_none ks

  none_dropped : (k : K) (list : List V) → IsAbove cmp key k list → filter (λ w. not (has k w)) list ≡ list
  none_dropped k [] above = refl
  none_dropped k (v ∷ list) above = rw (differs_above cmp key has is k v above.0) (ap (λ (l : List V). v ∷ l) (none_dropped k list above.1))

  first_dropped : (v : V) (k : K) (list : List V) → has k v ≡ true → IsAbove cmp key k list → filter (λ w. not (has k w)) (v ∷ list) ≡ list
  first_dropped v k list h above = rw h (none_dropped k list above)

  -- the first deleted key is below all of the list, or that of its front
  pub deletes_skip : (k : K) (ks : List K) (list : List V) → IsAbove cmp key k list → deletes has (k ∷ ks) list ≡ deletes has ks list
  deletes_skip k ks list above = ap (deletes has ks) (none_dropped k list above)

  pub deletes_drop : (v : V) (k : K) (ks : List K) (list : List V) → has k v ≡ true → IsAbove cmp key k list → deletes has (k ∷ ks) (v ∷ list) ≡ deletes has ks list
  deletes_drop v k ks list h above = ap (deletes has ks) (first_dropped v k list h above)

  -- the front is below all deleted keys
  pub deletes_above : (v : V) (ks : List K) (list : List V) → KeysAbove (key v) ks → deletes has ks (v ∷ list) ≡ v ∷ deletes has ks list
  deletes_above v [] list above = refl
  deletes_above v (k ∷ ks) list above = rw (differs_below cmp key has is k v above.0) (deletes_above v ks (filter (λ w. not (has k w)) list) above.1)

  pub deletes_keep : (k : K) (ks : List K) (list : List V) → IsAbove cmp key k list → IsAbove cmp key k (deletes has ks list)
  deletes_keep k [] list above = above
  deletes_keep k (h ∷ ks) list above = deletes_keep k ks (filter (λ w. not (has h w)) list) (filter_above (λ w. not (has h w)) k list above)

  put_front : (v : V) (list : List V) → IsAbove cmp key (key v) list → put_sorted cmp key v list ≡ v ∷ list
  put_front v [] above = refl
  put_front v (w ∷ list) above = put_above cmp key has is v w list (not_above cmp key has is (key v) (key w) above.0) above

  pub puts_above : (l : V) (vs list : List V) → IsAbove cmp key (key l) vs → puts cmp key vs (l ∷ list) ≡ l ∷ puts cmp key vs list
  puts_above l [] list above = refl
  puts_above l (v ∷ vs) list above = ap (puts cmp key vs) (put_below cmp key has is v l list above.0) ∙ puts_above l vs (put_sorted cmp key v list) above.1

  -- the first entry to be put is below all of the list
  pub puts_first : (v : V) (vs list : List V) → IsAbove cmp key (key v) vs → IsAbove cmp key (key v) list → puts cmp key (v ∷ vs) list ≡ v ∷ puts cmp key vs list
  puts_first v vs list above_vs above = ap (puts cmp key vs) (put_front v list above) ∙ puts_above v vs list above_vs

  not_below_same : (k : K) (w : V) → has k w ≡ true → is_lt (cmp (key w) k) ≡ false
  not_below_same k w h = false_from_ne_true (is_lt (cmp (key w) k)) (λ below.
      let no : has k w ≡ false = differs_below cmp key has is k w (less_from (cmp (key w) k) below) in
      cc)

  -- .. or has the key of the list's front
  pub puts_over : (v w : V) (vs list : List V) → has (key v) w ≡ true → IsAbove cmp key (key v) vs → IsAbove cmp key (key v) list → puts cmp key (v ∷ vs) (w ∷ list) ≡ v ∷ puts cmp key vs list
  puts_over v w vs list h above_vs above =
      ap (puts cmp key vs) (put_same cmp key has is v w list (not_below_same (key v) w h) h above) ∙ puts_above v vs list above_vs

  -- ---- a change applied to its base gives its target

  abbrev Restores : List V → List V → Type 0
  Restores base target = puts cmp key (fresh_by same base target) (deletes has (gone_by key has base target) base) ≡ target

  lower_step : (b : V) (base target : List V) → IsAbove cmp key (key b) base → IsAbove cmp key (key b) target → Restores base target → Restores (b ∷ base) target
  lower_step b base target above_b above_t r =
      ap (λ (x : List V). puts cmp key x (deletes has (gone_by key has (b ∷ base) target) (b ∷ base))) (fresh_lower b base target above_t)
      ∙ (ap (λ (x : List K). puts cmp key (fresh_by same base target) (deletes has x (b ∷ base))) (gone_lower b base target above_t)
      ∙ (ap (λ (x : List V). puts cmp key (fresh_by same base target) x) (deletes_drop b (key b) (gone_by key has base target) base (is.decided (key b) b refl) above_b) ∙ r))

  higher_step : (t : V) (base target : List V) → IsAbove cmp key (key t) base → IsAbove cmp key (key t) target → Restores base target → Restores base (t ∷ target)
  higher_step t base target above_b above_t r =
      ap (λ (x : List V). puts cmp key x (deletes has (gone_by key has base (t ∷ target)) base)) (fresh_higher t base target above_b)
      ∙ (ap (λ (x : List K). puts cmp key (t ∷ fresh_by same base target) (deletes has x base)) (gone_higher t base target above_b)
      ∙ (puts_first t (fresh_by same base target) (deletes has (gone_by key has base target) base) (filter_above _ (key t) target above_t) (deletes_keep (key t) (gone_by key has base target) base above_b)
      ∙ ap (λ (l : List V). t ∷ l) r))

  equal_step : (b t : V) (base target : List V) → key b ≡ key t → IsAbove cmp key (key b) base → IsAbove cmp key (key t) target → Restores base target → Restores (b ∷ base) (t ∷ target)
  equal_step b t base target e above_b above_t r =
      let back : IsAbove cmp key (key t) base = subst (λ (k : K). IsAbove cmp key k base) e above_b in
      let over : IsAbove cmp key (key b) target = subst (λ (k : K). IsAbove cmp key k target) (sym e) above_t in
      let keys : deletes has (gone_by key has (b ∷ base) (t ∷ target)) (b ∷ base) ≡ b ∷ deletes has (gone_by key has base target) base
      = ap (λ (x : List K). deletes has x (b ∷ base)) (gone_equal b t base target e above_b) ∙ deletes_above b (gone_by key has base target) base (gone_above (key b) base target above_b) in
      elim (cases_Bool (same t b)) [
        | inl kept ↦
            ap (λ (x : List V). puts cmp key x (deletes has (gone_by key has (b ∷ base) (t ∷ target)) (b ∷ base))) (fresh_kept b t base target kept over)
            ∙ (ap (puts cmp key (fresh_by same base target)) keys
            ∙ (puts_above b (fresh_by same base target) (deletes has (gone_by key has base target) base) (filter_above _ (key b) target over)
            ∙ (ap (λ (l : List V). b ∷ l) r ∙ ap (λ (v : V). v ∷ target) (sym (same_is t b kept)))))
        | inr other ↦
            ap (λ (x : List V). puts cmp key x (deletes has (gone_by key has (b ∷ base) (t ∷ target)) (b ∷ base))) (fresh_changed b t base target other back over)
            ∙ (ap (puts cmp key (t ∷ fresh_by same base target)) keys
            ∙ (puts_over t b (fresh_by same base target) (deletes has (gone_by key has base target) base) (is.decided (key t) b e) (filter_above _ (key t) target above_t) (deletes_keep (key t) (gone_by key has base target) base back)
            ∙ ap (λ (l : List V). t ∷ l) r))
      ]

  restores_by : (n : ℕ) (base target : List V) → length base + length target ≤ n → Ascends cmp key base → Ascends cmp key target → Restores base target
  restores_by n [] [] le p q = refl
  restores_by zero [] (t ∷ target) le p q = absurd (omega arith)
  restores_by (suc n) [] (t ∷ target) le p q = higher_step t [] target tt q.0 (restores_by n [] target (omega arith) tt q.1)
  restores_by zero (b ∷ base) target le p q = absurd (omega arith)
  restores_by (suc n) (b ∷ base) [] le p q = lower_step b base [] p.0 tt (restores_by n base [] (omega arith) p.1 tt)
  restores_by (suc n) (b ∷ base) (t ∷ target) le p q = elim (compared (key b) (key t)) [
    | lower less ↦ lower_step b base (t ∷ target) p.0 (less, above_lower cmp key has is (key b) (key t) target less q.0) (restores_by n base (t ∷ target) (omega arith) p.1 q)
    | equal e ↦ equal_step b t base target e p.0 q.0 (restores_by n base target (omega arith) p.1 q.1)
    | higher less ↦ higher_step t (b ∷ base) target (less, above_lower cmp key has is (key t) (key b) base less p.0) q.0 (restores_by n (b ∷ base) target (omega arith) p q.1)
  ]

  pub restores : (base target : List V) → Ascends cmp key base → Ascends cmp key target → puts cmp key (fresh_by same base target) (deletes has (gone_by key has base target) base) ≡ target
  restores base target p q = restores_by (length base + length target) base target (omega arith) p q

  -- ---- what is new, by look-ups

  -- an equal value is in a list that ascends exactly where that of its key is equal
  same_found : (t : V) (base : List V) → Ascends cmp key base → list_any (same t) base ≡ option_map_or (same t) (find (has (key t)) base) false
  same_found t [] p = refl
  same_found t (b ∷ base) p = elim (cases_Bool (has (key t) b)) [
    | inl here ↦
        let above : IsAbove cmp key (key t) base = subst (λ (k : K). IsAbove cmp key k base) (is.decides (key t) b here) p.0 in
        rw (here, none_same t base above) (or_false (same t b))
    | inr other ↦
        let no : same t b ≡ false = false_from_ne_true (same t b) (λ e.
        let h : has (key t) b ≡ true = is.decided (key t) b (ap key (sym (same_is t b e))) in
        cc) in
        rw (other, no) (same_found t base p.1)
  ]
    where
      or_false : (x : Bool) → (x || false) ≡ x
      or_false true = refl
      or_false false = refl

  pub fresh_found : (base target : List V) → Ascends cmp key base → fresh_by same base target ≡ filter (λ t. not (option_map_or (same t) (find (has (key t)) base) false)) target
  fresh_found base [] p = refl
  fresh_found base (t ∷ target) p = rw (same_found t base p) (ap (λ (l : List V). cond (not (option_map_or (same t) (find (has (key t)) base) false)) (t ∷ l) l) (fresh_found base target p))

  pub gone_found : (base target : List V) → gone_by key has base target ≡ map key (filter (λ b. not (is_some (find (has (key b)) target))) base)
  gone_found [] target = refl
  gone_found (b ∷ base) target = rw (is_some-find (has (key b)) target) (elim (list_any (has (key b)) target) as (λ x. map key (cond (not x) (b ∷ filter (λ b. not (list_any (has (key b)) target)) base) (filter (λ b. not (list_any (has (key b)) target)) base)) ≡ map key (cond (not x) (b ∷ filter (λ b. not (is_some (find (has (key b)) target))) base) (filter (λ b. not (is_some (find (has (key b)) target))) base))) [
    | true ↦ gone_found base target
    | false ↦ ap (λ (l : List K). key b ∷ l) (gone_found base target)
  ])

  -- ---- order of what is gone

  pub Ascends-map : (list : List V) → Ascends cmp key list → Ascends cmp (λ k. k) (map key list)
  Ascends-map [] p = tt
  Ascends-map (v ∷ list) p = (keys_above (key v) list p.0, Ascends-map list p.1)

  pub Ascends-drop : (n : ℕ) (list : List V) → Ascends cmp key list → Ascends cmp key (drop n list)
  Ascends-drop zero list p = p
  Ascends-drop (suc n) [] p = tt
  Ascends-drop (suc n) (v ∷ list) p = Ascends-drop n list p.1

  -- ---- order of a list after a change

  pub Ascends-deletes : (ks : List K) (list : List V) → Ascends cmp key list → Ascends cmp key (deletes has ks list)
  Ascends-deletes [] list p = p
  Ascends-deletes (k ∷ ks) list p = Ascends-deletes ks (filter (λ w. not (has k w)) list) (Ascends-filter cmp key has is (λ w. not (has k w)) list p)

  pub Ascends-puts : (vs list : List V) → Ascends cmp key list → Ascends cmp key (puts cmp key vs list)
  Ascends-puts [] list p = p
  Ascends-puts (v ∷ vs) list p = Ascends-puts vs (put_sorted cmp key v list) (Ascends-put_sorted cmp key has is v list p)
