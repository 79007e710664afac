-- Rows that may be put one after another, where the rows behind all have distinct keys.
use Rattle.std.proofs.Common.{◌≡◌, ◌==◌, ◌≤◌, ℕ, Bool, true, false, not, ◌&&◌, List, [], ◌∷◌, ◌++◌, find, filter, Some, None, refl, sym, ◌∙◌, subst, cond}
use Rattle.std.specs.List.{All}
use Rattle.std.specs.Ordering.{is_lt}
use Rattle.std.specs.Str.{bytes_eq}
use Rattle.std.specs.declared.cmp.Ordering.{Ordering}
use Rattle.std.proofs.lemmas.Bool.{and_from, and_parts, eq-eqb, eqb-true, false_from_ne_true}
use Rattle.std.proofs.lemmas.List.Elements.{All-append, All-cons, All-filter, All-head, All-tail}
use Rattle.std.proofs.lemmas.Slice.Eq.{bytes_eq-Decides}
use Rattle.dmn_bytes.specs.Points.{hash_cmp, is_zero}
use Rattle.dmn_bytes.specs.declared.hash.Hash256.{Hash256}
use Rattle.dmn_rows.specs.declared.row.MnRow.{MnRow}
use Rattle.dmn_rows.specs.Distinct.{AreDistinct, HasDistinctKeys}
use Rattle.dmn_rows.specs.Listing.{IsAscending}
use Rattle.dmn_rows.specs.Rows.{has_collateral, has_hash, has_operator, has_owner, has_service, no_service, put_row, same_service}
use Rattle.dmn_rows.specs.Sorted.{IsKey, Ascends, put_sorted}
use Rattle.dmn_rows.proofs.Distinct.{HasDistinctKeys-filter, HasDistinctKeys-put_row}
use Rattle.dmn_rows.proofs.Keys.{IsAscending-put_row, row_key, same_point-from, same_point-is}
use Rattle.dmn_rows.proofs.Lookups.{find-stronger, none_joined, none_parts}
use Rattle.dmn_rows.proofs.Sorted.{is_lower, is_it, is_higher, meets, put_above, put_below}
use Rattle.dmn_restore.specs.Lists.{drop_all, hash_of, rows_with, rows_without}
use Rattle.dmn_restore.specs.Proper.{HasPenaltiesTo}
use Rattle.dmn_restore.specs.Puts.{HasFreeKeys, MayPutAll}
use Rattle.dmn_restore.proofs.Keyed.{AllAbsent, absent_behind, first_found, undo_put}

-- ---- any values

in_middle : {V : Type 0} (test : V → Bool) (xs : List V) (v : V) (ys : List V) → find test (xs ++ v ∷ ys) ≡ None → test v ≡ false
in_middle test [] v ys none = (none_parts test v ys none).0
in_middle test (x ∷ xs) v ys none = in_middle test xs v ys (none_parts test x (xs ++ v ∷ ys) none).1

pub found_all : {V : Type 0} (P : V → Type 0) (test : V → Bool) (list : List V) (v : V) → All P list → find test list ≡ Some v → P v
found_all P test [] v all is = absurd cc
found_all {V} P test (x ∷ list) v all is = go (found_all P test list v (All-tail P x list all)) (test x) is
  where
    go : (find test list ≡ Some v → P v) → (b : Bool) → cond b (Some x) (find test list) ≡ Some v → P v
    go behind true e = let same : x ≡ v = cc in subst P same (All-head P x list all)
    go behind false e = behind e

module _ {K V : Type 0} (cmp : K → K → Ordering) (key : V → K) (has : K → V → Bool) (is : IsKey cmp key has) where
  -- where a value was put and none is the same as another, none was the same as this before
  pub was_free : (same : V → V → Bool) → ((v w : V) → same v w ≡ true → same w v ≡ true) → (v : V) (list : List V) → Ascends cmp key list → find (has (key v)) list ≡ None → AreDistinct same (put_sorted cmp key v list) → find (same v) list ≡ None
  was_free same turn v [] ascending absent distinct = refl
  was_free same turn v (w ∷ list) ascending absent distinct = elim (meets cmp key has is (key v) w list ascending) [
    | is_lower less ↦
        let apart : AreDistinct same (w ∷ put_sorted cmp key v list) = subst (AreDistinct same) (put_below cmp key has is v w list less) distinct in
        let other : same w v ≡ false = in_middle (same w) (filter (λ x. is_lt (cmp (key x) (key v))) list) v (filter (λ x. is_lt (cmp (key v) (key x))) list) apart.0 in
        let differs : same v w ≡ false = false_from_ne_true (same v w) (λ yes. let no : true ≡ false = sym (turn v w yes) ∙ other in cc) in
        none_joined (same v) w list differs (was_free same turn v list ascending.1 (none_parts (has (key v)) w list absent).1 apart.1)
    | is_it not_below it above ↦ let no : true ≡ false = sym it ∙ (none_parts (has (key v)) w list absent).0 in cc
    | is_higher not_below differs above ↦
        let apart : AreDistinct same (v ∷ w ∷ list) = subst (AreDistinct same) (put_above cmp key has is v w list not_below above) distinct in
        apart.0
  ]

  pub all_put : (P : V → Type 0) (v : V) (list : List V) → P v → All P list → All P (put_sorted cmp key v list)
  all_put P v list new old =
      All-append P (filter (λ x. is_lt (cmp (key x) (key v))) list) (v ∷ filter (λ x. is_lt (cmp (key v) (key x))) list) (All-filter (λ x. is_lt (cmp (key x) (key v))) P list old)
      (All-cons P v (filter (λ x. is_lt (cmp (key v) (key x))) list) new (All-filter (λ x. is_lt (cmp (key v) (key x))) P list old))

  pub all_dropped : (P : V → Type 0) (ks : List K) (list : List V) → All P list → All P (drop_all has ks list)
  all_dropped P [] list all = all
  all_dropped P (k ∷ ks) list all = all_dropped P ks (filter (λ v. not (has k v)) list) (All-filter (λ v. not (has k v)) P list all)

-- ---- having one key goes both ways

turn_owners : (r q : MnRow) → has_owner r.owner q ≡ true → has_owner q.owner r ≡ true
turn_owners r q h = (bytes_eq-Decides r.owner q.owner).1 (sym ((bytes_eq-Decides q.owner r.owner).0 h))

turn_operators : (r q : MnRow) → has_operator r.operator q ≡ true → has_operator q.operator r ≡ true
turn_operators r q h =
    let parts = and_parts (not (is_zero r.operator)) (bytes_eq q.operator r.operator) h in
    let same : q.operator ≡ r.operator = (bytes_eq-Decides _ _).0 parts.1 in
    rw same (and_from (not (is_zero r.operator)) (bytes_eq r.operator r.operator) parts.0 ((bytes_eq-Decides r.operator r.operator).1 refl))

turn_services : (r q : MnRow) → has_service r.service q ≡ true → has_service q.service r ≡ true
turn_services r q h =
    let parts = and_parts (not (no_service r.service)) (same_service q.service r.service) h in
    let both = and_parts (bytes_eq q.service.address r.service.address) (q.service.port == r.service.port) parts.1 in
    let address : q.service.address ≡ r.service.address = (bytes_eq-Decides _ _).0 both.0 in
    let port : q.service.port ≡ r.service.port = eqb-true _ _ both.1 in
    rw (address, port) (and_from (not (no_service r.service)) (same_service r.service r.service) parts.0 (and_from _ _ ((bytes_eq-Decides r.service.address r.service.address).1 refl) (eq-eqb _ _ refl)))

turn_collaterals : (r q : MnRow) → has_collateral r.collateral q ≡ true → has_collateral q.collateral r ≡ true
turn_collaterals r q h = same_point-from r.collateral q.collateral (sym (same_point-is q.collateral r.collateral h))

-- ---- rows

pub free_keys : (row : MnRow) (rows : List MnRow) → IsAscending rows → find (has_hash row.hash) rows ≡ None → HasDistinctKeys (put_row row rows) → HasFreeKeys row rows
free_keys row rows ascending absent keys = record {
  owner = was_free hash_cmp hash_of has_hash row_key (λ r. has_owner r.owner) turn_owners row rows ascending absent keys.owners;
  operator = was_free hash_cmp hash_of has_hash row_key (λ r. has_operator r.operator) turn_operators row rows ascending absent keys.operators;
  service = was_free hash_cmp hash_of has_hash row_key (λ r. has_service r.service) turn_services row rows ascending absent keys.services;
  collateral = was_free hash_cmp hash_of has_hash row_key (λ r. has_collateral r.collateral) turn_collaterals row rows ascending absent keys.collaterals;
}

both_first : (a b : Bool) → (a && b) ≡ true → a ≡ true
both_first a b h = (and_parts a b h).0

pub keys_put : (row : MnRow) (rows : List MnRow) → IsAscending rows → HasDistinctKeys rows → HasFreeKeys row rows → HasDistinctKeys (put_row row rows)
keys_put row rows ascending keys free =
    HasDistinctKeys-put_row row rows ascending keys
    (find-stronger (λ q. has_owner row.owner q) (λ q. has_owner row.owner q && not (has_hash row.hash q)) (λ q h. both_first _ _ h) rows free.owner)
    (find-stronger (λ q. has_operator row.operator q) (λ q. has_operator row.operator q && not (has_hash row.hash q)) (λ q h. both_first _ _ h) rows free.operator)
    (find-stronger (λ q. has_service row.service q) (λ q. has_service row.service q && not (has_hash row.hash q)) (λ q h. both_first _ _ h) rows free.service)
    (find-stronger (λ q. has_collateral row.collateral q) (λ q. has_collateral row.collateral q && not (has_hash row.hash q)) (λ q h. both_first _ _ h) rows free.collateral)

before_put : (row : MnRow) (rows : List MnRow) → IsAscending rows → find (has_hash row.hash) rows ≡ None → HasDistinctKeys (put_row row rows) → HasDistinctKeys rows
before_put row rows ascending absent keys =
    subst HasDistinctKeys (undo_put hash_cmp hash_of has_hash row_key row rows ascending absent) (HasDistinctKeys-filter (λ q. not (has_hash row.hash q)) (put_row row rows) keys)

-- rows of these hashes are absent
abbrev pub RowsAbsent : List MnRow → List MnRow → Type 0
RowsAbsent = AllAbsent hash_cmp hash_of has_hash row_key

before_all : (more rows : List MnRow) → IsAscending rows → IsAscending more → RowsAbsent rows more → HasDistinctKeys (rows_with more rows) → HasDistinctKeys rows
before_all [] rows ascending up absent keys = keys
before_all (row ∷ more) rows ascending up absent keys =
    before_put row rows ascending absent.0
    (before_all more (put_row row rows) (IsAscending-put_row row rows ascending) up.1 (absent_behind hash_cmp hash_of has_hash row_key row more rows ascending up.0 absent.1) keys)

-- where the rows behind all have distinct keys, and no penalty is that of a later height, each may be put
pub may_put_all : (height : ℕ) (put rows : List MnRow) → IsAscending rows → IsAscending put → RowsAbsent rows put → HasDistinctKeys (rows_with put rows) → HasPenaltiesTo height (rows_with put rows) → MayPutAll height put rows
may_put_all height [] rows ascending up absent keys penalties = tt
may_put_all height (row ∷ more) rows ascending up absent keys penalties =
    let next : IsAscending (put_row row rows) = IsAscending-put_row row rows ascending in
    let behind = absent_behind hash_cmp hash_of has_hash row_key row more rows ascending up.0 absent.1 in (
      record {
        keys = free_keys row rows ascending absent.0 (before_all more (put_row row rows) next up.1 behind keys);
        penalty = found_all (λ (r : MnRow). r.penalty_at ≤ height) (has_hash row.hash) (rows_with (row ∷ more) rows) row penalties (first_found hash_cmp hash_of has_hash row_key row more rows ascending up.0);
      },
      may_put_all height more (put_row row rows) next up.1 behind keys penalties,
    )

pub keys_dropped : (hashes : List Hash256) (rows : List MnRow) → HasDistinctKeys rows → HasDistinctKeys (rows_without hashes rows)
keys_dropped [] rows keys = keys
keys_dropped (hash ∷ hashes) rows keys = keys_dropped hashes (filter (λ r. not (has_hash hash r)) rows) (HasDistinctKeys-filter (λ r. not (has_hash hash r)) rows keys)
