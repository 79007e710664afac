-- Lists that ascend by a key: such a list is known by what is found in it; what is found behind drops and puts.
use Rattle.std.proofs.Common.{◌≡◌, Bool, true, false, not, ◌&&◌, ◌||◌, cond, List, [], ◌∷◌, length, map, find, filter, Option, Some, None, refl, sym, ap, ◌∙◌, inl, inr, subst, arith, ◌≤◌}
use Rattle.std.specs.Prelude.{IsSome, is_some}
use Rattle.std.specs.List.{All, AllByRecursion, list_any}
use Rattle.std.specs.Option.{option_map_or, option_or}
use Rattle.std.specs.Ordering.{is_eq, ordering_reverse}
use Rattle.std.specs.Cmp.{tied_itself}
use Rattle.std.specs.declared.cmp.Ordering.{Ordering}
use Rattle.std.specs.declared.cmp.Ordering.TheVariants.{Less, Equal, Greater}
use Rattle.std.proofs.lemmas.Bool.{cases_Bool, false_from_ne_true}
use Rattle.std.proofs.lemmas.List.{length-map}
use Rattle.std.proofs.lemmas.List.Elements.{All-filter}
use Rattle.dmn_rows.specs.Sorted.{IsKey, IsAbove, Ascends, put_sorted}
use Rattle.dmn_rows.proofs.Sorted.{Ascends-filter, Ascends-put_sorted, above_lower, differs_above, differs_below, find-drop_other, find-dropped, find-put_sorted, none_found}
use Rattle.dmn_restore.specs.Lists.{drop_all, put_all}

or_none : {V : Type 0} (o : Option V) → option_or o None ≡ o
or_none None = refl
or_none (Some v) = refl

-- a value that may be found before what is found else
found_before : {V : Type 0} (b : Bool) (last : Option V) (v : V) (rest : Option V) → option_or last (cond b (Some v) rest) ≡ option_or (option_or last (cond b (Some v) None)) rest
found_before b (Some w) v rest = refl
found_before true None v rest = refl
found_before false None v rest = refl

and_no : (b : Bool) → (b && false) ≡ false
and_no true = refl
and_no false = refl

fewer : {V : Type 0} (test : V → Bool) (list : List V) → length (filter test list) ≤ length list
fewer test [] = omega arith
fewer test (v ∷ list) =
    let rest = fewer test list in
    elim (test v) as (λ (b : Bool). length (cond b (v ∷ filter test list) (filter test list)) ≤ length (v ∷ list)) [ true ↦ omega (arith, rest) | false ↦ omega (arith, rest) ]

module _ {K V : Type 0} (cmp : K → K → Ordering) (key : V → K) (has : K → V → Bool) (is : IsKey cmp key has) where
  -- a list of keys has a key
  abbrev pub has_key : List K → K → Bool
  has_key ks k = list_any (λ j. is_eq (cmp j k)) ks

  -- the last value of a key
  abbrev pub last_of : K → List V → Option V
  last_of k [] = None
  last_of k (v ∷ vs) = option_or (last_of k vs) (cond (has k v) (Some v) None)

  pub one_key : (j k : K) → is_eq (cmp j k) ≡ true → j ≡ k
  one_key j k same = go (cmp j k) refl same
    where
      go : (o : Ordering) → cmp j k ≡ o → is_eq o ≡ true → j ≡ k
      go Less e t = cc
      go Equal e t = is.exact j k e
      go Greater e t = cc

  two_keys : (j k : K) → is_eq (cmp j k) ≡ false → j ≡ k → ⊥
  two_keys j k differ same = let no : true ≡ false = sym (ap is_eq (tied_itself is.total j)) ∙ ap (λ (h : K). is_eq (cmp j h)) same ∙ differ in cc

  itself : (v : V) → has (key v) v ≡ true
  itself v = is.decided (key v) v refl

  -- ---- the order is kept

  pub drops_ascend : (ks : List K) (list : List V) → Ascends cmp key list → Ascends cmp key (drop_all has ks list)
  drops_ascend [] list ascending = ascending
  drops_ascend (k ∷ ks) list ascending = drops_ascend ks (filter (λ v. not (has k v)) list) (Ascends-filter cmp key has is (λ v. not (has k v)) list ascending)

  pub puts_ascend : (vs list : List V) → Ascends cmp key list → Ascends cmp key (put_all cmp key vs list)
  puts_ascend [] list ascending = ascending
  puts_ascend (v ∷ vs) list ascending = puts_ascend vs (put_sorted cmp key v list) (Ascends-put_sorted cmp key has is v list ascending)

  -- ---- a list that ascends is known by what is found in it

  found_first : (v : V) (list : List V) → find (has (key v)) (v ∷ list) ≡ Some v
  found_first v list = rw (itself v) refl

  behind_first : (k : K) (v : V) (list : List V) → IsAbove cmp key (key v) list → has k v ≡ true → find (has k) list ≡ None
  behind_first k v list above same = subst (λ (h : K). find (has h) list ≡ None) (is.decides k v same) (none_found cmp key has is (key v) list above)

  none_first : (v w : V) (list : List V) → cmp (key v) (key w) ≡ Less → IsAbove cmp key (key w) list → find (has (key v)) (w ∷ list) ≡ None
  none_first v w list less above = none_found cmp key has is (key v) (w ∷ list) (less, above_lower cmp key has is (key v) (key w) list less above)

  pub known : (xs ys : List V) → Ascends cmp key xs → Ascends cmp key ys → ((k : K) → find (has k) xs ≡ find (has k) ys) → xs ≡ ys
  known [] [] up down same = refl
  known [] (y ∷ ys) up down same = let no : None ≡ Some y = same (key y) ∙ found_first y ys in cc
  known (x ∷ xs) [] up down same = let no : Some x ≡ None = sym (found_first x xs) ∙ same (key x) in cc
  known (x ∷ xs) (y ∷ ys) up down same = go (known xs ys up.1 down.1) (cmp (key x) (key y)) refl
    where
      rest : (first : x ≡ y) (k : K) → find (has k) xs ≡ find (has k) ys
      rest first k = elim (cases_Bool (has k x)) [
        | inl here ↦ behind_first k x xs up.0 here ∙ sym (behind_first k y ys down.0 (ap (has k) (sym first) ∙ here))
        | inr other ↦
            sym (ap (λ (b : Bool). cond b (Some x) (find (has k) xs)) other)
            ∙ same k
            ∙ ap (λ (b : Bool). cond b (Some y) (find (has k) ys)) (ap (has k) (sym first) ∙ other)
      ]

      go : (((k : K) → find (has k) xs ≡ find (has k) ys) → xs ≡ ys) → (o : Ordering) → cmp (key x) (key y) ≡ o → x ∷ xs ≡ y ∷ ys
      go behind Less e = let no : Some x ≡ None = sym (found_first x xs) ∙ same (key x) ∙ none_first x y ys e down.0 in cc
      go behind Equal e =
          let one : key x ≡ key y = is.exact (key x) (key y) e in
          let first : Some x ≡ Some y = sym (found_first x xs) ∙ same (key x) ∙ ap (λ (k : K). find (has k) (y ∷ ys)) one ∙ found_first y ys in
          let is_it : x ≡ y = cc in
          ap (λ (v : V). v ∷ xs) is_it ∙ ap (λ (l : List V). y ∷ l) (behind (rest is_it))
      go behind Greater e =
          let less : cmp (key y) (key x) ≡ Less = is.total.antisymm (key y) (key x) ∙ ap ordering_reverse e in
          let no : None ≡ Some y = sym (none_first y x xs less up.0) ∙ same (key y) ∙ found_first y ys in
          cc

  -- ---- what is found behind drops

  pub drop_one : (j k : K) (list : List V) → find (has k) (filter (λ v. not (has j v)) list) ≡ cond (is_eq (cmp j k)) None (find (has k) list)
  drop_one j k list = elim (cases_Bool (is_eq (cmp j k))) [
    | inl same ↦ rw same (subst (λ (h : K). find (has k) (filter (λ v. not (has h v)) list) ≡ None) (sym (one_key j k same)) (find-dropped cmp key has is k list))
    | inr differ ↦ rw differ (find-drop_other cmp key has is j k (two_keys j k differ) list)
  ]

  dropped_or : (a b : Bool) (o : Option V) → cond b None (cond a None o) ≡ cond (a || b) None o
  dropped_or true true o = refl
  dropped_or true false o = refl
  dropped_or false b o = refl

  pub find-drop_all : (k : K) (ks : List K) (list : List V) → find (has k) (drop_all has ks list) ≡ cond (has_key ks k) None (find (has k) list)
  find-drop_all k [] list = refl
  find-drop_all k (j ∷ ks) list =
      find-drop_all k ks (filter (λ v. not (has j v)) list)
      ∙ ap (λ (o : Option V). cond (has_key ks k) None o) (drop_one j k list)
      ∙ dropped_or (is_eq (cmp j k)) (has_key ks k) (find (has k) list)

  -- ---- what is found behind puts

  pub find-put_all : (k : K) (vs list : List V) → Ascends cmp key list → find (has k) (put_all cmp key vs list) ≡ option_or (last_of k vs) (find (has k) list)
  find-put_all k [] list ascending = refl
  find-put_all k (v ∷ vs) list ascending =
      find-put_all k vs (put_sorted cmp key v list) (Ascends-put_sorted cmp key has is v list ascending)
      ∙ ap (option_or (last_of k vs)) (find-put_sorted cmp key has is k v list ascending)
      ∙ found_before (has k v) (last_of k vs) v (find (has k) list)

  -- the keys of values
  abbrev pub keys_of : List V → List K
  keys_of = map key

  -- the value of a key is found where one is there
  none_with : (k : K) (v : V) → has k v ≡ false → is_eq (cmp (key v) k) ≡ false
  none_with k v differs = false_from_ne_true (is_eq (cmp (key v) k)) (λ same. let no : true ≡ false = sym (is.decided k v (one_key (key v) k same)) ∙ differs in cc)

  no_key : (k : K) (vs : List V) → last_of k vs ≡ None → has_key (keys_of vs) k ≡ false
  no_key k [] none = refl
  no_key k (v ∷ vs) none = go (no_key k vs) (last_of k vs) refl
    where
      go : (last_of k vs ≡ None → has_key (keys_of vs) k ≡ false) → (o : Option V) → last_of k vs ≡ o → has_key (keys_of (v ∷ vs)) k ≡ false
      go behind None e =
          let here : cond (has k v) (Some v) None ≡ None = sym (ap (λ (l : Option V). option_or l (cond (has k v) (Some v) None)) e) ∙ none in
          let differs : has k v ≡ false = false_from_ne_true (has k v) (λ same. let no : Some v ≡ None = sym (ap (λ (b : Bool). cond b (Some v) None) same) ∙ here in cc) in
          ap (λ (b : Bool). b || has_key (keys_of vs) k) (none_with k v differs) ∙ behind e
      go behind (Some w) e = let no : Some w ≡ None = sym (ap (λ (l : Option V). option_or l (cond (has k v) (Some v) None)) e) ∙ none in cc

  -- values may be taken away before others take their places
  pub put_over : (vs list : List V) → Ascends cmp key list → put_all cmp key vs (drop_all has (keys_of vs) list) ≡ put_all cmp key vs list
  put_over vs list ascending =
      known (put_all cmp key vs bare) (put_all cmp key vs list) (puts_ascend vs bare down) (puts_ascend vs list ascending)
      (λ k. find-put_all k vs bare down ∙ ap (option_or (last_of k vs)) (find-drop_all k (keys_of vs) list) ∙ go k (last_of k vs) refl ∙ sym (find-put_all k vs list ascending))
    where
      bare : List V
      bare = drop_all has (keys_of vs) list

      down : Ascends cmp key bare
      down = drops_ascend (keys_of vs) list ascending

      go : (k : K) (o : Option V) → last_of k vs ≡ o → option_or (last_of k vs) (cond (has_key (keys_of vs) k) None (find (has k) list)) ≡ option_or (last_of k vs) (find (has k) list)
      go k None e = ap (λ (b : Bool). option_or (last_of k vs) (cond b None (find (has k) list))) (no_key k vs e)
      go k (Some v) e = rw e refl

  -- ---- values that ascend

  pub last_above : (k : K) (vs : List V) → IsAbove cmp key k vs → last_of k vs ≡ None
  last_above k [] above = refl
  last_above k (v ∷ vs) above = rw (last_above k vs above.1, differs_above cmp key has is k v above.0) refl

  pub last_is_first : (k : K) (vs : List V) → Ascends cmp key vs → last_of k vs ≡ find (has k) vs
  last_is_first k [] ascending = refl
  last_is_first k (v ∷ vs) ascending = elim (cases_Bool (has k v)) [
    | inl same ↦
        let none : last_of k vs ≡ None = subst (λ (h : K). last_of h vs ≡ None) (is.decides k v same) (last_above (key v) vs ascending.0) in
        rw (none, same) refl
    | inr differs ↦ rw differs (or_none (last_of k vs) ∙ last_is_first k vs ascending.1)
  ]

  -- they are the list into which they were put
  pub put_whole : (vs : List V) → Ascends cmp key vs → put_all cmp key vs [] ≡ vs
  put_whole vs ascending =
      known (put_all cmp key vs []) vs (puts_ascend vs [] tt) ascending
      (λ k. find-put_all k vs [] tt ∙ or_none (last_of k vs) ∙ last_is_first k vs ascending)

  -- ---- how two lists differ

  -- the keys of old that new has not
  abbrev pub gone : List V → List V → List K
  gone old new = map key (filter (λ v. not (is_some (find (has (key v)) new))) old)

  -- whether old has the value
  abbrev pub is_kept : (V → V → Bool) → List V → V → Bool
  is_kept same old v = option_map_or (λ (o : V). same o v) (find (has (key v)) old) false

  -- the values of new that are new or differ
  abbrev pub fresh : (V → V → Bool) → List V → List V → List V
  fresh same old new = filter (λ v. not (is_kept same old v)) new

  has_gone : (k : K) (old new : List V) → has_key (gone old new) k ≡ (is_some (find (has k) old) && not (is_some (find (has k) new)))
  has_gone k [] new = refl
  has_gone k (v ∷ old) new = elim (cases_Bool (has k v)) [
    | inl same ↦
        let one : key v ≡ k = is.decides k v same in
        rw same (by_found one (is_some (find (has k) new)) refl (has_gone k old new))
    | inr differs ↦ rw differs (by_other (is_some (find (has (key v)) new)) (none_with k v differs) ∙ has_gone k old new)
  ]
    where
      rest : List K
      rest = gone old new

      by_found : key v ≡ k → (b : Bool) → is_some (find (has k) new) ≡ b → has_key rest k ≡ (is_some (find (has k) old) && not (is_some (find (has k) new)))
          → has_key (map key (cond (not (is_some (find (has (key v)) new))) (v ∷ filter (λ v. not (is_some (find (has (key v)) new))) old) (filter (λ v. not (is_some (find (has (key v)) new))) old))) k ≡ not (is_some (find (has k) new))
      by_found one true there behind =
          let here : is_some (find (has (key v)) new) ≡ true = ap (λ (h : K). is_some (find (has h) new)) one ∙ there in
          rw here (behind ∙ rw there (and_no (is_some (find (has k) old))))
      by_found one false there behind =
          let here : is_some (find (has (key v)) new) ≡ false = ap (λ (h : K). is_some (find (has h) new)) one ∙ there in
          let tie : is_eq (cmp (key v) k) ≡ true = ap (λ (h : K). is_eq (cmp h k)) one ∙ ap is_eq (tied_itself is.total k) in
          rw here (rw (tie, there) refl)

      by_other : (b : Bool) → is_eq (cmp (key v) k) ≡ false → has_key (map key (cond (not b) (v ∷ filter (λ v. not (is_some (find (has (key v)) new))) old) (filter (λ v. not (is_some (find (has (key v)) new))) old))) k ≡ has_key rest k
      by_other true differ = refl
      by_other false differ = rw differ refl

  find-filtered : (test : V → Bool) (k : K) (list : List V) → Ascends cmp key list → (o : Option V) → find (has k) list ≡ o → find (has k) (filter test list) ≡ cond (option_map_or test o false) o None
  find-filtered test k [] ascending o e = subst (λ (p : Option V). None ≡ cond (option_map_or test p false) p None) e refl
  find-filtered test k (v ∷ list) ascending o e = elim (cases_Bool (has k v)) [
    | inl same ↦
        let is_it : Some v ≡ o = sym (ap (λ (b : Bool). cond b (Some v) (find (has k) list)) same) ∙ e in
        let none : find (has k) list ≡ None = behind_first k v list ascending.0 same in
        subst (λ (p : Option V). find (has k) (filter test (v ∷ list)) ≡ cond (option_map_or test p false) p None) is_it
        (elim (test v) as (λ (b : Bool). find (has k) (cond b (v ∷ filter test list) (filter test list)) ≡ cond b (Some v) None) [
          | true ↦ rw same refl
          | false ↦ find-filtered test k list ascending.1 None none
        ])
    | inr differs ↦
        let behind : find (has k) list ≡ o = sym (ap (λ (b : Bool). cond b (Some v) (find (has k) list)) differs) ∙ e in
        elim (test v) as (λ (b : Bool). find (has k) (cond b (v ∷ filter test list) (filter test list)) ≡ cond (option_map_or test o false) o None) [
          | true ↦ rw differs (find-filtered test k list ascending.1 o behind)
          | false ↦ find-filtered test k list ascending.1 o behind
        ]
  ]

  found_key : (k : K) (v : V) (list : List V) → find (has k) list ≡ Some v → key v ≡ k
  found_key k v [] e = cc
  found_key k v (w ∷ list) e = elim (cases_Bool (has k w)) [
    | inl same ↦
        let it : Some w ≡ Some v = sym (ap (λ (b : Bool). cond b (Some w) (find (has k) list)) same) ∙ e in
        let one : w ≡ v = cc in
        ap key (sym one) ∙ is.decides k w same
    | inr differs ↦ found_key k v list (sym (ap (λ (b : Bool). cond b (Some w) (find (has k) list)) differs) ∙ e)
  ]

  -- what was told of the difference leads from the old list to the new one
  pub leads : (same : V → V → Bool) → ((a b : V) → key a ≡ key b → same a b ≡ true → a ≡ b) → (old new : List V) → Ascends cmp key old → Ascends cmp key new → put_all cmp key (fresh same old new) (drop_all has (gone old new) old) ≡ new
  leads same exact old new up down =
      known (put_all cmp key told bare) new (puts_ascend told bare low) down
      (λ k. find-put_all k told bare low
      ∙ ap (λ (o : Option V). option_or o (find (has k) bare)) (last_is_first k told high)
      ∙ ap (option_or (find (has k) told)) (find-drop_all k (gone old new) old)
      ∙ by_new k (find (has k) new) refl)
    where
      told : List V
      told = fresh same old new

      bare : List V
      bare = drop_all has (gone old new) old

      low : Ascends cmp key bare
      low = drops_ascend (gone old new) old up

      high : Ascends cmp key told
      high = Ascends-filter cmp key has is (λ v. not (is_kept same old v)) new down

      by_old : (k : K) (v : V) (o : Option V) → find (has k) old ≡ o → find (has k) new ≡ Some v → key v ≡ k
          → option_or (cond (not (option_map_or (λ (w : V). same w v) o false)) (Some v) None) (cond (is_some o && false) None o) ≡ Some v
      by_old k v None e there one = refl
      by_old k v (Some w) e there one = elim (cases_Bool (same w v)) [
        | inl alike ↦ rw alike (ap (λ (x : V). Some x) (exact w v (found_key k w old e ∙ sym one) alike))
        | inr differs ↦ rw differs refl
      ]

      by_new : (k : K) (o : Option V) → find (has k) new ≡ o → option_or (find (has k) told) (cond (has_key (gone old new) k) None (find (has k) old)) ≡ o
      by_new k None none =
          ap (λ (p : Option V). option_or p (cond (has_key (gone old new) k) None (find (has k) old))) (find-filtered (λ v. not (is_kept same old v)) k new down None none)
          ∙ ap (λ (b : Bool). cond b None (find (has k) old)) (has_gone k old new ∙ ap (λ (p : Option V). is_some (find (has k) old) && not (is_some p)) none)
          ∙ no_more (find (has k) old)
        where
          no_more : (p : Option V) → cond (is_some p && true) None p ≡ None
          no_more None = refl
          no_more (Some w) = refl
      by_new k (Some v) there =
          let one : key v ≡ k = found_key k v new there in
          let of_old : find (has (key v)) old ≡ find (has k) old = ap (λ (h : K). find (has h) old) one in
          ap (λ (p : Option V). option_or p (cond (has_key (gone old new) k) None (find (has k) old))) (find-filtered (λ v. not (is_kept same old v)) k new down (Some v) there)
          ∙ ap (λ (b : Bool). option_or (cond (not (is_kept same old v)) (Some v) None) (cond b None (find (has k) old))) (has_gone k old new ∙ ap (λ (p : Option V). is_some (find (has k) old) && not (is_some p)) there)
          ∙ ap (λ (p : Option V). option_or (cond (not (option_map_or (λ (w : V). same w v) p false)) (Some v) None) (cond (is_some (find (has k) old) && false) None (find (has k) old))) of_old
          ∙ by_old k v (find (has k) old) refl there one

  -- ---- keys that are absent

  or_right : (a b : Bool) → b ≡ true → (a || b) ≡ true
  or_right true b h = refl
  or_right false b h = h

  or_left : (a b : Bool) → a ≡ true → (a || b) ≡ true
  or_left true b h = refl
  or_left false b h = cc

  -- no value has the key of one of these
  abbrev pub AllAbsent : List V → List V → Type 0
  AllAbsent list = AllByRecursion (λ v. find (has (key v)) list ≡ None)

  all_gone : (vs : List V) (ks : List K) (list : List V) → ((k : K) → has_key (keys_of vs) k ≡ true → has_key ks k ≡ true) → AllAbsent (drop_all has ks list) vs
  all_gone [] ks list within = tt
  all_gone (v ∷ vs) ks list within = (
    find-drop_all (key v) ks list ∙ ap (λ (b : Bool). cond b None (find (has (key v)) list)) (within (key v) (or_left (is_eq (cmp (key v) (key v))) (has_key (keys_of vs) (key v)) (ap is_eq (tied_itself is.total (key v))))),
    all_gone vs ks list (λ k there. within k (or_right (is_eq (cmp (key v) k)) (has_key (keys_of vs) k) there)),
  )

  -- values whose keys were taken away are absent
  pub absent_dropped : (vs list : List V) → AllAbsent (drop_all has (keys_of vs) list) vs
  absent_dropped vs list = all_gone vs (keys_of vs) list (λ k there. there)

  -- a put leaves values of higher keys absent
  pub absent_behind : (v : V) (vs list : List V) → Ascends cmp key list → IsAbove cmp key (key v) vs → AllAbsent list vs → AllAbsent (put_sorted cmp key v list) vs
  absent_behind v [] list ascending above absent = tt
  absent_behind v (w ∷ vs) list ascending above absent = (
    find-put_sorted cmp key has is (key w) v list ascending ∙ ap (λ (b : Bool). cond b (Some v) (find (has (key w)) list)) (differs_below cmp key has is (key w) v above.0) ∙ absent.0,
    absent_behind v vs list ascending above.1 absent.1,
  )

  -- what was put where nothing had its key is taken away again
  pub undo_put : (v : V) (list : List V) → Ascends cmp key list → find (has (key v)) list ≡ None → filter (λ w. not (has (key v) w)) (put_sorted cmp key v list) ≡ list
  undo_put v list ascending absent =
      known (filter (λ w. not (has (key v) w)) (put_sorted cmp key v list)) list (Ascends-filter cmp key has is (λ w. not (has (key v) w)) (put_sorted cmp key v list) (Ascends-put_sorted cmp key has is v list ascending)) ascending
      (λ k. drop_one (key v) k (put_sorted cmp key v list) ∙ go k)
    where
      go : (k : K) → cond (is_eq (cmp (key v) k)) None (find (has k) (put_sorted cmp key v list)) ≡ find (has k) list
      go k = elim (cases_Bool (is_eq (cmp (key v) k))) [
        | inl same ↦ rw same (sym (subst (λ (h : K). find (has h) list ≡ None) (one_key (key v) k same) absent))
        | inr differ ↦
            let other : has k v ≡ false = false_from_ne_true (has k v) (λ same. two_keys (key v) k differ (is.decides k v same)) in
            rw differ (find-put_sorted cmp key has is k v list ascending ∙ ap (λ (b : Bool). cond b (Some v) (find (has k) list)) other)
      ]

  -- the first of values that ascend is found behind all
  pub first_found : (v : V) (vs list : List V) → Ascends cmp key list → IsAbove cmp key (key v) vs → find (has (key v)) (put_all cmp key (v ∷ vs) list) ≡ Some v
  first_found v vs list ascending above =
      find-put_all (key v) vs (put_sorted cmp key v list) (Ascends-put_sorted cmp key has is v list ascending)
      ∙ ap (λ (o : Option V). option_or o (find (has (key v)) (put_sorted cmp key v list))) (last_above (key v) vs above)
      ∙ find-put_sorted cmp key has is (key v) v list ascending
      ∙ ap (λ (b : Bool). cond b (Some v) (find (has (key v)) list)) (itself v)

  -- ---- keys that ascend

  keys_above : (k : K) (vs : List V) → IsAbove cmp key k vs → IsAbove cmp (λ (j : K). j) k (map key vs)
  keys_above k [] above = tt
  keys_above k (v ∷ vs) above = (above.0, keys_above k vs above.1)

  pub keys_ascend : (vs : List V) → Ascends cmp key vs → Ascends cmp (λ (j : K). j) (map key vs)
  keys_ascend [] ascending = tt
  keys_ascend (v ∷ vs) ascending = (keys_above (key v) vs ascending.0, keys_ascend vs ascending.1)

  pub gone_ascends : (old new : List V) → Ascends cmp key old → Ascends cmp (λ (j : K). j) (gone old new)
  gone_ascends old new up = keys_ascend (filter (λ v. not (is_some (find (has (key v)) new))) old) (Ascends-filter cmp key has is (λ v. not (is_some (find (has (key v)) new))) old up)

  pub fresh_ascends : (same : V → V → Bool) (old new : List V) → Ascends cmp key new → Ascends cmp key (fresh same old new)
  fresh_ascends same old new up = Ascends-filter cmp key has is (λ v. not (is_kept same old v)) new up

  -- ---- how many are told

  found_more : (k : K) (w : V) (vs : List V) → IsSome (find (has k) vs) → IsSome (find (has k) (w ∷ vs))
  found_more k w vs there = elim (has k w) as (λ (b : Bool). IsSome (cond b (Some w) (find (has k) vs))) [ true ↦ refl | false ↦ there ]

  all_found : (vs : List V) → AllByRecursion (λ (v : V). IsSome (find (has (key v)) vs)) vs
  all_found [] = tt
  all_found (v ∷ vs) = (subst (λ (b : Bool). IsSome (cond b (Some v) (find (has (key v)) vs))) (sym (itself v)) refl, more vs (all_found vs))
    where
      more : (ws : List V) → AllByRecursion (λ (w : V). IsSome (find (has (key w)) vs)) ws → AllByRecursion (λ (w : V). IsSome (find (has (key w)) (v ∷ vs))) ws
      more [] all = tt
      more (w ∷ ws) all = (found_more (key w) v vs all.0, more ws all.1)

  keys_found : (test : V → Bool) (list vs : List V) → AllByRecursion (λ (v : V). IsSome (find (has (key v)) list)) vs → AllByRecursion (λ (k : K). IsSome (find (has k) list)) (map key (filter test vs))
  keys_found test list [] all = tt
  keys_found test list (v ∷ vs) all =
      let rest = keys_found test list vs all.1 in
      elim (test v) as (λ (b : Bool). AllByRecursion (λ (k : K). IsSome (find (has k) list)) (map key (cond b (v ∷ filter test vs) (filter test vs)))) [ true ↦ (all.0, rest) | false ↦ rest ]

  -- each key that is gone was there
  pub gone_found : (old new : List V) → AllByRecursion (λ (k : K). IsSome (find (has k) old)) (gone old new)
  gone_found old new = keys_found (λ v. not (is_some (find (has (key v)) new))) old old (all_found old)

  pub gone_few : (old new : List V) → length (gone old new) ≤ length old
  gone_few old new =
      let left : List V = filter (λ v. not (is_some (find (has (key v)) new))) old in
      let few : length left ≤ length old = fewer (λ v. not (is_some (find (has (key v)) new))) old in
      omega (arith, few, length-map left key)

  pub fresh_few : (same : V → V → Bool) (old new : List V) → length (fresh same old new) ≤ length new
  fresh_few same old new = fewer (λ v. not (is_kept same old v)) new

  pub fresh_all : (P : V → Type 0) (same : V → V → Bool) (old new : List V) → All P new → All P (fresh same old new)
  fresh_all P same old new all = All-filter (λ v. not (is_kept same old v)) P new all
