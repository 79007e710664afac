-- An index whose keys are places is the order by these places.
use Rattle.std.proofs.Common.{◌≡◌, ℕ, ◌+◌, ◌≤◌, Bool, true, false, cond, List, [], ◌∷◌, ◌++◌, map, find, filter, slice_get, Option, Some, None, Bor, refl, sym, ap, ◌∙◌, inl, inr, subst, arith}
use Rattle.std.specs.Prelude.{nat_le, zero, suc, IsTrue, IfSome}
use Rattle.std.specs.List.{AllByRecursion}
use Rattle.std.specs.Option.{option_map, option_and_then, option_copied, unwrap_or}
use Rattle.std.specs.Ordering.{is_lt, is_eq, eq_by_cmp, nat_cmp}
use Rattle.std.specs.Cmp.{tied_itself}
use Rattle.std.specs.declared.cmp.Ordering.{Ordering}
use Rattle.std.specs.declared.cmp.Ordering.TheVariants.{Less, Equal, Greater}
use Rattle.std.proofs.lemmas.Option.{slice_get-map}
use Rattle.std.proofs.lemmas.Bool.Decides.{nat_tests}
use Rattle.std.proofs.lemmas.Map.Keys.{ge_from_not_lt}
use Rattle.std.proofs.lemmas.Bool.{cases_Bool, false_from_ne_true, and_parts}
use Rattle.dmn_bytes.specs.Points.{hash_cmp}
use Rattle.dmn_bytes.specs.declared.hash.Hash256.{Hash256}
use Rattle.dmn_rows.specs.declared.row.MnRow.{MnRow}
use Rattle.dmn_rows.specs.Keys.{same_hash-is, same_hash-from}
use Rattle.dmn_rows.specs.Listing.{IsAscending}
use Rattle.dmn_rows.specs.Rows.{has_hash}
use Rattle.dmn_rows.specs.Sorted.{IsKey, Ascends, put_sorted}
use Rattle.dmn_rows.proofs.Keys.{row_key}
use Rattle.dmn_rows.proofs.Lookups.{none_joined}
use Rattle.dmn_rows.proofs.Sorted.{is_lower, is_it, is_higher, meets, put_below, put_same, put_above, not_above, less_from, differs_below, Ascends-put_sorted}
use Rattle.dmn_rows.specs.Profile.{confirm_wait}
use Rattle.dmn_rows.specs.Ranked.{insert_ranked, ranked}
use Rattle.dmn_rows.specs.Row.{pay_key}
use Rattle.dmn_rows.specs.Waiting.{is_due, is_unbanned, pay_order}
use Rattle.dmn_versions.specs.Laws.{KeyLaws, hash_laws}
use Rattle.dmn_indexes.specs.declared.keys.UnconfirmedKey.{UnconfirmedKey}
use Rattle.dmn_indexes.specs.Index.{index_of, put_key}
use Rattle.dmn_indexes.specs.Keys.{pay_cmp, pay_laws, unconfirmed_cmp, unconfirmed_laws}
use Rattle.dmn_indexes.specs.declared.keys.PayKey.{PayKey}
use Rattle.dmn_indexes.specs.Order.{is_unconfirmed, unconfirmed_order, first_due}
use Rattle.dmn_indexes.proofs.Index.{tied}
use Rattle.dmn_indexes.proofs.Table.{put-by_key}

-- the rows that pass the test, by ascending places
abbrev pub order_of : {K : Type 0} → (K → K → Ordering) → (MnRow → K) → (MnRow → Bool) → List MnRow → List MnRow
order_of cmp place among [] = []
order_of cmp place among (r ∷ rows) = cond (among r) (put_sorted cmp place r (order_of cmp place among rows)) (order_of cmp place among rows)

abbrev pub pay_place : MnRow → PayKey
pay_place r = record { since = pay_key r; hash = r.hash }

abbrev pub unconfirmed_place : MnRow → UnconfirmedKey
unconfirmed_place r = record { registered = r.registered; hash = r.hash }

-- ---- each row of a list is the one that its hash finds

all_joined : {A : Type 0} (P Q R : A → Type 0) → ((x : A) → P x → Q x → R x) → (xs : List A) → AllByRecursion P xs → AllByRecursion Q xs → AllByRecursion R xs
all_joined P Q R both [] ps qs = tt
all_joined P Q R both (x ∷ xs) ps qs = (both x ps.0 qs.0, all_joined P Q R both xs ps.1 qs.1)

all_map : {A : Type 0} (P Q : A → Type 0) → ((x : A) → P x → Q x) → (xs : List A) → AllByRecursion P xs → AllByRecursion Q xs
all_map P Q turn [] ps = tt
all_map P Q turn (x ∷ xs) ps = (turn x ps.0, all_map P Q turn xs ps.1)

all_filter : {A : Type 0} (P : A → Type 0) (test : A → Bool) (xs : List A) → AllByRecursion P xs → AllByRecursion P (filter test xs)
all_filter P test [] ps = tt
all_filter P test (x ∷ xs) ps = elim (test x) as (λ b. AllByRecursion P (cond b (x ∷ filter test xs) (filter test xs))) [ true ↦ (ps.0, all_filter P test xs ps.1) | false ↦ all_filter P test xs ps.1 ]

all_append : {A : Type 0} (P : A → Type 0) (xs ys : List A) → AllByRecursion P xs → AllByRecursion P ys → AllByRecursion P (xs ++ ys)
all_append P [] ys ps qs = qs
all_append P (x ∷ xs) ys ps qs = (ps.0, all_append P xs ys ps.1 qs)

all_at : {A : Type 0} (P : A → Type 0) (xs : List A) (i : ℕ) (x : A) → AllByRecursion P xs → slice_get xs i ≡ Some x → P x
all_at P [] i x ps e = cc
all_at P (y ∷ xs) zero x ps e = subst P (ap (λ o. unwrap_or o x) e) ps.0
all_at P (y ∷ xs) (suc i) x ps e = all_at P xs i x ps.1 e

abbrev FindsItself : List MnRow → MnRow → Type 0
FindsItself rows r = find (has_hash r.hash) rows ≡ Some r

all_found : (rows : List MnRow) → IsAscending rows → AllByRecursion (FindsItself rows) rows
all_found [] ascending = tt
all_found (r ∷ rows) ascending = (
  ap (λ b. cond b (Some r) (find (has_hash r.hash) rows)) (same_hash-from r.hash r.hash refl),
  all_joined (λ q. hash_cmp r.hash q.hash ≡ Less) (FindsItself rows) (FindsItself (r ∷ rows)) (λ q less found. ap (λ b. cond b (Some r) (find (has_hash q.hash) rows)) (other q less) ∙ found) rows ascending.0 (all_found rows ascending.1),
)
  where
    other : (q : MnRow) → hash_cmp r.hash q.hash ≡ Less → has_hash q.hash r ≡ false
    other q less = differs_below hash_cmp (λ (x : MnRow). x.hash) has_hash row_key q.hash r less

module _ {K : Type 0} (cmp : K → K → Ordering) (laws : KeyLaws cmp) (place : MnRow → K) (among : MnRow → Bool) where
  abbrev pub stands_at : K → MnRow → Bool
  stands_at k r = eq_by_cmp cmp k (place r)

  place_key : IsKey cmp place stands_at
  place_key = record {
    total = laws.total;
    exact = laws.exact;
    decides = λ k r h. sym (tied cmp laws k (place r) h);
    decided = λ k r e. ap (λ q. is_eq (cmp k q)) e ∙ ap is_eq (tied_itself laws.total k);
  }

  abbrev order : List MnRow → List MnRow
  order = order_of cmp place among

  pub order-ascends : (rows : List MnRow) → Ascends cmp place (order rows)
  order-ascends [] = tt
  order-ascends (r ∷ rows) = elim (among r) as (λ b. Ascends cmp place (cond b (put_sorted cmp place r (order rows)) (order rows))) [
    | true ↦ Ascends-put_sorted cmp place stands_at place_key r (order rows) (order-ascends rows)
    | false ↦ order-ascends rows
  ]

  -- the index is the order, each hash under its place
  pub index-order : (rows : List MnRow) → index_of cmp (λ r. cond (among r) (Some (place r)) None) rows ≡ map (λ r. (place r, r.hash)) (order rows)
  index-order [] = refl
  index-order (r ∷ rows) =
      ap (λ ps. put_key cmp (cond (among r) (Some (place r)) None) r.hash ps) (index-order rows)
      ∙ elim (among r) as (λ b. put_key cmp (cond b (Some (place r)) None) r.hash (map (λ r. (place r, r.hash)) (order rows)) ≡ map (λ r. (place r, r.hash)) (cond b (put_sorted cmp place r (order rows)) (order rows))) [
        | true ↦ put-by_key cmp place stands_at place_key (λ r. r.hash) r (order rows) (order-ascends rows)
        | false ↦ refl
      ]

  order-all : (P : MnRow → Type 0) (rows : List MnRow) → AllByRecursion P rows → AllByRecursion P (order rows)
  order-all P [] ps = tt
  order-all P (r ∷ rows) ps =
      let rest = order-all P rows ps.1 in
      elim (among r) as (λ b. AllByRecursion P (cond b (put_sorted cmp place r (order rows)) (order rows))) [
        | true ↦ all_append P (filter (λ w. is_lt (cmp (place w) (place r))) (order rows)) (r ∷ filter (λ w. is_lt (cmp (place r) (place w))) (order rows)) (all_filter P _ (order rows) rest) (ps.0, all_filter P _ (order rows) rest)
        | false ↦ rest
      ]

  -- each row of the order passes the test
  order-passes : (rows : List MnRow) → AllByRecursion (λ r. among r ≡ true) (order rows)
  order-passes [] = tt
  order-passes (r ∷ rows) = elim (cases_Bool (among r)) [
    | inl passes ↦ rw passes (all_append (λ r. among r ≡ true) (filter (λ w. is_lt (cmp (place w) (place r))) (order rows)) (r ∷ filter (λ w. is_lt (cmp (place r) (place w))) (order rows)) (all_filter (λ r. among r ≡ true) _ (order rows) (order-passes rows)) (passes, all_filter (λ r. among r ≡ true) _ (order rows) (order-passes rows)))
    | inr fails ↦ rw fails (order-passes rows)
  ]

  pub passes_at : (rows : List MnRow) (i : ℕ) (r : MnRow) → slice_get (order rows) i ≡ Some r → among r ≡ true
  passes_at rows i r is = all_at (λ q. among q ≡ true) (order rows) i r (order-passes rows) is

  -- ---- the order is the ranked list, since no two rows of one hash are there

  abbrev rank : MnRow → MnRow → Ordering
  rank r q = cmp (place r) (place q)

  module _ (same_hash : (r q : MnRow) → place r ≡ place q → r.hash ≡ q.hash) where
    inserted : (r : MnRow) (list : List MnRow) → Ascends cmp place list → AllByRecursion (λ q. hash_cmp r.hash q.hash ≡ Less) list → put_sorted cmp place r list ≡ insert_ranked rank r list
    inserted r [] ascending above_all = refl
    inserted r (w ∷ list) ascending above_all = elim (meets cmp place stands_at place_key (place r) w list ascending) [
      | is_lower less ↦
          put_below cmp place stands_at place_key r w list less
          ∙ ap (λ l. w ∷ l) (inserted r list ascending.1 above_all.1)
          ∙ sym (ap (λ o. cond (is_lt o) (w ∷ insert_ranked rank r list) (r ∷ w ∷ list)) less)
      | is_it not_below same above ↦
          let tie : hash_cmp r.hash w.hash ≡ Equal = ap (hash_cmp r.hash) (same_hash w r (place_key.decides (place r) w same)) ∙ tied_itself hash_laws.total r.hash in
          let no : Less ≡ Equal = sym above_all.0 ∙ tie in
          cc
      | is_higher not_below differs above ↦
          put_above cmp place stands_at place_key r w list not_below above
          ∙ sym (ap (λ b. cond b (w ∷ insert_ranked rank r list) (r ∷ w ∷ list)) not_below)
    ]

    pub order-ranked : (rows : List MnRow) → IsAscending rows → order rows ≡ ranked rank (filter among rows)
    order-ranked [] ascending = refl
    order-ranked (r ∷ rows) ascending =
        elim (among r) as (λ b. cond b (put_sorted cmp place r (order rows)) (order rows) ≡ ranked rank (cond b (r ∷ filter among rows) (filter among rows))) [
          | true ↦ inserted r (order rows) (order-ascends rows) (order-all (λ q. hash_cmp r.hash q.hash ≡ Less) rows ascending.0) ∙ ap (insert_ranked rank r) (order-ranked rows ascending.1)
          | false ↦ order-ranked rows ascending.1
        ]

  -- the row at a place of the order is found by its hash
  pub found-at : (rows : List MnRow) (i : ℕ) → IsAscending rows → option_and_then (λ r. find (has_hash r.hash) rows) (slice_get (order rows) i) ≡ slice_get (order rows) i
  found-at rows i ascending = go (slice_get (order rows) i) refl
    where
      go : (o : Option MnRow) → slice_get (order rows) i ≡ o → option_and_then (λ r. find (has_hash r.hash) rows) o ≡ o
      go None e = refl
      go (Some r) e = all_at (FindsItself rows) (order rows) i r (order-all (FindsItself rows) rows (all_found rows ascending)) e

  -- what stands at a place of the index
  pub place_found : (rows : List MnRow) (ps : List (K × Hash256)) (i : ℕ) (k : K) (hash : Hash256) → IsAscending rows → ps ≡ index_of cmp (λ r. cond (among r) (Some (place r)) None) rows → slice_get ps i ≡ Some (k, hash) → find (has_hash hash) rows ≡ slice_get (order rows) i
  place_found rows ps i k hash ascending is some = go (slice_get (order rows) i) refl (sym (ap (λ qs. slice_get qs i) (is ∙ index-order rows) ∙ slice_get-map (λ r. (place r, r.hash)) (order rows) i) ∙ some)
    where
      go : (o : Option MnRow) → slice_get (order rows) i ≡ o → option_map {U = K × Hash256} (λ r. (place r, r.hash)) o ≡ Some (k, hash) → find (has_hash hash) rows ≡ slice_get (order rows) i
      go None e h = cc
      go (Some r) e h =
          let same : hash ≡ r.hash = sym (ap (λ (o : Option (K × Hash256)). (unwrap_or o (k, hash)).1) h) in
          ap (λ h. find (has_hash h) rows) same ∙ sym (ap (option_and_then (λ r. find (has_hash r.hash) rows)) e) ∙ found-at rows i ascending

  pub no_place : (rows : List MnRow) (ps : List (K × Hash256)) (i : ℕ) → ps ≡ index_of cmp (λ r. cond (among r) (Some (place r)) None) rows → slice_get ps i ≡ None → None ≡ slice_get (order rows) i
  no_place rows ps i is none = go (slice_get (order rows) i) (sym (ap (λ qs. slice_get qs i) (is ∙ index-order rows) ∙ slice_get-map (λ r. (place r, r.hash)) (order rows) i) ∙ none)
    where
      go : (o : Option MnRow) → option_map {U = K × Hash256} (λ r. (place r, r.hash)) o ≡ None → None ≡ o
      go None h = refl
      go (Some r) h = cc

  -- ---- the first of an order is below all that pass the test

  abbrev pub IsLeast : List MnRow → MnRow → Type 0
  IsLeast [] r = ⊥
  IsLeast (h ∷ list) r = is_lt (cmp (place r) (place h)) ≡ false

  least_put : (r : MnRow) (list : List MnRow) → Ascends cmp place list → IsLeast (put_sorted cmp place r list) r
  least_put r [] ascending = ap is_lt (tied_itself laws.total (place r))
  least_put r (h ∷ list) ascending = elim (meets cmp place stands_at place_key (place r) h list ascending) [
    | is_lower less ↦ rw (put_below cmp place stands_at place_key r h list less) (not_above cmp place stands_at place_key (place h) (place r) less)
    | is_it not_below same above ↦ rw (put_same cmp place stands_at place_key r h list not_below same above) (ap is_lt (tied_itself laws.total (place r)))
    | is_higher not_below differs above ↦ rw (put_above cmp place stands_at place_key r h list not_below above) (ap is_lt (tied_itself laws.total (place r)))
  ]

  least_kept : (r q : MnRow) (list : List MnRow) → Ascends cmp place list → IsLeast list q → IsLeast (put_sorted cmp place r list) q
  least_kept r q [] ascending least = absurd least
  least_kept r q (h ∷ list) ascending least = elim (meets cmp place stands_at place_key (place r) h list ascending) [
    | is_lower less ↦ rw (put_below cmp place stands_at place_key r h list less) least
    | is_it not_below same above ↦ rw (put_same cmp place stands_at place_key r h list not_below same above) (ap (λ k. is_lt (cmp (place q) k)) (sym (place_key.decides (place r) h same)) ∙ least)
    | is_higher not_below differs above ↦ rw (put_above cmp place stands_at place_key r h list not_below above) (false_from_ne_true (is_lt (cmp (place q) (place r))) (λ below.
        let less : cmp (place q) (place h) ≡ Less = laws.total.trans (place q) (place r) (place h) (less_from (cmp (place q) (place r)) below) above.0 in
        let both : true ≡ false = sym (ap is_lt less) ∙ least in
        cc))
  ]

  abbrev pub IsLeastIf : List MnRow → MnRow → Type 0
  IsLeastIf list q = among q ≡ true → IsLeast list q

  pub least-all : (rows : List MnRow) → AllByRecursion (IsLeastIf (order rows)) rows
  least-all [] = tt
  least-all (r ∷ rows) = go (among r) refl (least-all rows)
    where
      go : (b : Bool) → among r ≡ b → AllByRecursion (IsLeastIf (order rows)) rows → IsLeastIf (cond b (put_sorted cmp place r (order rows)) (order rows)) r × AllByRecursion (IsLeastIf (cond b (put_sorted cmp place r (order rows)) (order rows))) rows
      go true e rest = ((λ _. least_put r (order rows) (order-ascends rows)), all_map (IsLeastIf (order rows)) (IsLeastIf (put_sorted cmp place r (order rows))) (λ q f is. least_kept r q (order rows) (order-ascends rows) (f is)) rows rest)
      go false e rest = ((λ passes. let both : true ≡ false = sym passes ∙ e in cc), rest)

-- ---- where the first isn't due, none is

too_young : (a b height : ℕ) → b ≤ a → nat_le (b + confirm_wait) height ≡ false → nat_le (a + confirm_wait) height ≡ true → ⊥
too_young a b height le young old = grind (arith, nat_tests)

not_before : (a b : UnconfirmedKey) → is_lt (unconfirmed_cmp a b) ≡ false → b.registered ≤ a.registered
not_before a b not_below = ge_from_not_lt a.registered b.registered (go (nat_cmp a.registered b.registered) refl)
  where
    go : (o : Ordering) → nat_cmp a.registered b.registered ≡ o → is_lt o ≡ false
    go Less e = let below : unconfirmed_cmp a b ≡ Less = rw e refl in cc
    go Equal e = refl
    go Greater e = refl

none_found_by : (test : MnRow → Bool) (rows : List MnRow) → AllByRecursion (λ q. test q ≡ false) rows → find test rows ≡ None
none_found_by test [] fails = refl
none_found_by test (r ∷ rows) fails = none_joined test r rows fails.0 (none_found_by test rows fails.1)

abbrev by_age : List MnRow → List MnRow
by_age = order_of unconfirmed_cmp unconfirmed_place is_unconfirmed

none_due : (height : ℕ) (rows : List MnRow) → first_due height (by_age rows) ≡ None → find (is_due confirm_wait height) rows ≡ None
none_due height rows none = go (by_age rows) refl
  where
    go : (list : List MnRow) → by_age rows ≡ list → find (is_due confirm_wait height) rows ≡ None
    go [] e = none_found_by (is_due confirm_wait height) rows (all_map (IsLeastIf unconfirmed_cmp unconfirmed_laws unconfirmed_place is_unconfirmed (by_age rows)) (λ q. is_due confirm_wait height q ≡ false) (λ q least. false_from_ne_true (is_due confirm_wait height q) (λ due.
        let parts = and_parts (is_unconfirmed q) (nat_le (q.registered + confirm_wait) height) due in
        let no_row : ⊥ = subst (λ l. IsLeast unconfirmed_cmp unconfirmed_laws unconfirmed_place is_unconfirmed l q) e (least parts.0) in
        absurd no_row)) rows (least-all unconfirmed_cmp unconfirmed_laws unconfirmed_place is_unconfirmed rows))
    go (h ∷ list) e = none_found_by (is_due confirm_wait height) rows (all_map (IsLeastIf unconfirmed_cmp unconfirmed_laws unconfirmed_place is_unconfirmed (by_age rows)) (λ q. is_due confirm_wait height q ≡ false) (λ q least. false_from_ne_true (is_due confirm_wait height q) (λ due.
        let parts = and_parts (is_unconfirmed q) (nat_le (q.registered + confirm_wait) height) due in
        let first : is_lt (unconfirmed_cmp (unconfirmed_place q) (unconfirmed_place h)) ≡ false = subst (λ l. IsLeast unconfirmed_cmp unconfirmed_laws unconfirmed_place is_unconfirmed l q) e (least parts.0) in
        absurd (too_young q.registered h.registered height (not_before (unconfirmed_place q) (unconfirmed_place h) first) (young (nat_le (h.registered + confirm_wait) height) (sym (ap (first_due height) e) ∙ none)) parts.1))) rows (least-all unconfirmed_cmp unconfirmed_laws unconfirmed_place is_unconfirmed rows))
      where
        young : (b : Bool) → cond b (Some h) None ≡ None → b ≡ false
        young true some = cc
        young false some = refl

first_is : (height : ℕ) (list : List MnRow) (r : MnRow) → slice_get list 0 ≡ Some r → nat_le (r.registered + confirm_wait) height ≡ false → first_due height list ≡ None
first_is height [] r is young = refl
first_is height (h ∷ list) r is young =
    let same : h ≡ r = ap (λ (o : Option MnRow). unwrap_or o r) is in
    ap (λ (x : MnRow). cond (nat_le (x.registered + confirm_wait) height) (Some x) None) same ∙ ap (λ b. cond b (Some r) None) young

young_first : (height : ℕ) (rows : List MnRow) (r : MnRow) → slice_get (by_age rows) 0 ≡ Some r → nat_le (r.registered + confirm_wait) height ≡ false → find (is_due confirm_wait height) rows ≡ None
young_first height rows r is young = none_due height rows (first_is height (by_age rows) r is young)

-- ---- the orders as they are defined

pub pay_order-is : (rows : List MnRow) → IsAscending rows → order_of pay_cmp pay_place is_unbanned rows ≡ pay_order rows
pay_order-is = order-ranked pay_cmp pay_laws pay_place is_unbanned (λ r q same. ap (λ (k : PayKey). k.hash) same)

pub unconfirmed_order-is : (rows : List MnRow) → IsAscending rows → by_age rows ≡ unconfirmed_order rows
unconfirmed_order-is = order-ranked unconfirmed_cmp unconfirmed_laws unconfirmed_place is_unconfirmed (λ r q same. ap (λ (k : UnconfirmedKey). k.hash) same)

pub none_is_due : (height : ℕ) (rows : List MnRow) → IsAscending rows → slice_get (unconfirmed_order rows) 0 ≡ None → find (is_due confirm_wait height) rows ≡ None
none_is_due height rows ascending none = none_due height rows (no_first (by_age rows) (ap (λ l. slice_get l 0) (unconfirmed_order-is rows ascending) ∙ none))
  where
    no_first : (list : List MnRow) → slice_get list 0 ≡ None → first_due height list ≡ None
    no_first [] e = refl
    no_first (r ∷ list) e = cc

pub none_is_old : (height : ℕ) (rows : List MnRow) (r : MnRow) → IsAscending rows → slice_get (unconfirmed_order rows) 0 ≡ Some r → nat_le (r.registered + confirm_wait) height ≡ false → find (is_due confirm_wait height) rows ≡ None
none_is_old height rows r ascending is young = young_first height rows r (ap (λ l. slice_get l 0) (unconfirmed_order-is rows ascending) ∙ is) young

-- ---- the row that was found by the hash of a place

pub found_itself : (hash : Hash256) (rows : List MnRow) (r : MnRow) → find (has_hash hash) rows ≡ Some r → find (has_hash r.hash) rows ≡ Some r
found_itself hash rows r found = ap (λ (h : Hash256). find (has_hash h) rows) (same_hash-is r.hash hash (passes rows found)) ∙ found
  where
    passes : (list : List MnRow) → find (has_hash hash) list ≡ Some r → has_hash hash r ≡ true
    passes [] e = cc
    passes (q ∷ list) e = elim (cases_Bool (has_hash hash q)) [
      | inl here ↦ let is : q ≡ r = ap (λ (o : Option MnRow). unwrap_or o r) (sym (ap (λ b. cond b (Some q) (find (has_hash hash) list)) here) ∙ e) in subst (λ (x : MnRow). has_hash hash x ≡ true) is here
      | inr elsewhere ↦ passes list (sym (ap (λ b. cond b (Some q) (find (has_hash hash) list)) elsewhere) ∙ e)
    ]

pub if_found : (hash : Hash256) (rows : List MnRow) (o : Option (Bor MnRow)) → option_copied o ≡ find (has_hash hash) rows → IfSome o (λ r. find (has_hash r.now.hash) rows ≡ Some r.now)
if_found hash rows None is = tt
if_found hash rows (Some r) is = found_itself hash rows r.now (sym is)

pub if_found_unconfirmed : (hash : Hash256) (rows : List MnRow) (o : Option (Bor MnRow)) → IsAscending rows → option_copied o ≡ find (has_hash hash) rows → option_copied o ≡ slice_get (unconfirmed_order rows) 0
    → IfSome o (λ r. (find (has_hash r.now.hash) rows ≡ Some r.now) × IsTrue (is_unconfirmed r.now))
if_found_unconfirmed hash rows None ascending is first = tt
if_found_unconfirmed hash rows (Some r) ascending is first = (
  found_itself hash rows r.now (sym is),
  true_is (passes_at unconfirmed_cmp unconfirmed_laws unconfirmed_place is_unconfirmed rows 0 r.now (ap (λ l. slice_get l 0) (unconfirmed_order-is rows ascending) ∙ sym first)),
)
  where
    true_is : is_unconfirmed r.now ≡ true → IsTrue (is_unconfirmed r.now)
    true_is e = e
