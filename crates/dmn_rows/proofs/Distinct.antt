-- Keys that no two rows have stay so where a row is put, rows are left out or are seen at a height.
use Rattle.std.proofs.Common.{◌≡◌, ℕ, Bool, true, false, not, ◌&&◌, cond, List, [], ◌∷◌, find, filter, Option, Some, None, refl, sym, ap, ◌∙◌}
use Rattle.std.specs.Prelude.{◌==◌}
use Rattle.std.specs.Str.{bytes_eq}
use Rattle.std.specs.declared.cmp.Ordering.{Ordering}
use Rattle.std.specs.Option.{option_map}
use Rattle.std.proofs.lemmas.Bool.{false_from_ne_true, and_parts, and_from, not_from_false, eqb-true, eq-eqb}
use Rattle.std.proofs.lemmas.Slice.Eq.{bytes_eq-Decides}
use Rattle.dmn_bytes.specs.Points.{is_zero, hash_cmp, point_cmp}
use Rattle.dmn_rows.specs.declared.row.MnRow.{MnRow}
use Rattle.dmn_rows.specs.Row.{plain}
use Rattle.dmn_rows.specs.Rows.{Outputs, same_service, no_service, has_hash, has_owner, has_operator, has_service, has_collateral, has_point, plain_rows, put_row}
use Rattle.dmn_rows.specs.Sorted.{IsAbove, Ascends, put_sorted}
use Rattle.dmn_rows.specs.Listing.{IsAscending, OutputsAscend}
use Rattle.dmn_rows.specs.Distinct.{AreDistinct, HasDistinctKeys, HasDistinctPoints}
use Rattle.dmn_rows.proofs.Sorted.{IsKey, is_lower, is_it, is_higher, meets, none_found, differs_below, differs_above, put_below, put_same, put_above}
use Rattle.dmn_rows.proofs.Keys.{row_key, output_key, same_point-is, same_point-from, IsAscending-put_row}
use Rattle.dmn_rows.proofs.Lookups.{none_parts, none_joined, find-filter}

pub AreDistinct-filter : {V : Type 0} (same : V → V → Bool) (keep : V → Bool) (list : List V) → AreDistinct same list → AreDistinct same (filter keep list)
AreDistinct-filter same keep [] distinct = tt
AreDistinct-filter same keep (v ∷ list) distinct =
    elim (keep v) as (λ b. AreDistinct same (cond b (v ∷ filter keep list) (filter keep list))) [
      | true ↦ (find-filter (same v) keep list distinct.0, AreDistinct-filter same keep list distinct.1)
      | false ↦ AreDistinct-filter same keep list distinct.1
    ]

module _ {K V : Type 0} (cmp : K → K → Ordering) (key : V → K) (has : K → V → Bool) (is : IsKey cmp key has) where
  -- keys that ascend are distinct
  pub AreDistinct-ascends : (list : List V) → Ascends cmp key list → AreDistinct (λ v. has (key v)) list
  AreDistinct-ascends [] ascending = tt
  AreDistinct-ascends (v ∷ list) ascending = (none_found cmp key has is (key v) list ascending.0, AreDistinct-ascends list ascending.1)

  -- no value of another key is the same
  abbrev pub IsFreeBy : (V → V → Bool) → V → List V → Type 0
  IsFreeBy same v list = find (λ w. same v w && not (has (key v) w)) list ≡ None

  -- above a key, every value is another one
  free_above : (same : V → V → Bool) (v : V) (list : List V) → IsAbove cmp key (key v) list → IsFreeBy same v list → find (same v) list ≡ None
  free_above same v [] above free = refl
  free_above same v (w ∷ list) above free =
      let parts = none_parts (λ w. same v w && not (has (key v) w)) w list free in
      let other : not (has (key v) w) ≡ true = not_from_false _ (differs_above cmp key has is (key v) w above.0) in
      let differs : same v w ≡ false = false_from_ne_true (same v w) (λ yes. let no : true ≡ false = sym (and_from _ _ yes other) ∙ parts.0 in cc) in
      none_joined (same v) w list differs (free_above same v list above.1 parts.1)

  find-put : (test : V → Bool) (v : V) (list : List V) → Ascends cmp key list → test v ≡ false → find test list ≡ None → find test (put_sorted cmp key v list) ≡ None
  find-put test v [] ascending fails none = none_joined test v [] fails refl
  find-put test v (w ∷ list) ascending fails none =
      let parts = none_parts test w list none in
      elim (meets cmp key has is (key v) w list ascending) [
        | is_lower less ↦ rw (put_below cmp key has is v w list less) (none_joined test w (put_sorted cmp key v list) parts.0 (find-put test v list ascending.1 fails parts.1))
        | is_it not_below same above ↦ rw (put_same cmp key has is v w list not_below same above) (none_joined test v list fails parts.1)
        | is_higher not_below differs above ↦ rw (put_above cmp key has is v w list not_below above) (none_joined test v (w ∷ list) fails none)
      ]

  -- a value is put that no value of another key is the same as
  pub AreDistinct-put_sorted : (same : V → V → Bool) → ((v w : V) → same v w ≡ true → same w v ≡ true) → (v : V) (list : List V) → Ascends cmp key list → AreDistinct same list → IsFreeBy same v list → AreDistinct same (put_sorted cmp key v list)
  AreDistinct-put_sorted same turn v [] ascending distinct free = (refl, tt)
  AreDistinct-put_sorted same turn v (w ∷ list) ascending distinct free =
      let parts = none_parts (λ w. same v w && not (has (key v) w)) w list free in
      elim (meets cmp key has is (key v) w list ascending) [
        | is_lower less ↦
            let other : not (has (key v) w) ≡ true = not_from_false _ (differs_below cmp key has is (key v) w less) in
            let differs : same w v ≡ false = false_from_ne_true (same w v) (λ yes. let no : true ≡ false = sym (and_from _ _ (turn w v yes) other) ∙ parts.0 in cc) in
            rw (put_below cmp key has is v w list less) (find-put (same w) v list ascending.1 differs distinct.0, AreDistinct-put_sorted same turn v list ascending.1 distinct.1 parts.1)
        | is_it not_below it above ↦ rw (put_same cmp key has is v w list not_below it above) (free_above same v list above parts.1, distinct.1)
        | is_higher not_below differs above ↦ rw (put_above cmp key has is v w list not_below above) (free_above same v (w ∷ list) above free, distinct)
      ]

-- ---- rows and outputs

pub HasDistinctPoints-ascend : (outputs : Outputs) → OutputsAscend outputs → HasDistinctPoints outputs
HasDistinctPoints-ascend = AreDistinct-ascends point_cmp (λ o. o.point) has_point output_key

-- no row of another hash is the same
abbrev pub IsFree : (MnRow → MnRow → Bool) → MnRow → List MnRow → Type 0
IsFree same row rows = find (λ q. same row q && not (has_hash row.hash q)) rows ≡ None

pub AreDistinct-put_row : (same : MnRow → MnRow → Bool) → ((r q : MnRow) → same r q ≡ true → same q r ≡ true) → (row : MnRow) (rows : List MnRow) → IsAscending rows → AreDistinct same rows → IsFree same row rows → AreDistinct same (put_row row rows)
AreDistinct-put_row = AreDistinct-put_sorted hash_cmp (λ r. r.hash) has_hash row_key

-- having one key goes both ways
turn_owners : (r q : MnRow) → has_owner r.owner q ≡ true → has_owner q.owner r ≡ true
turn_owners r q h = (bytes_eq-Decides r.owner q.owner).1 (sym ((bytes_eq-Decides q.owner r.owner).0 h))

turn_operators : (r q : MnRow) → has_operator r.operator q ≡ true → has_operator q.operator r ≡ true
turn_operators r q h =
    let parts = and_parts (not (is_zero r.operator)) (bytes_eq q.operator r.operator) h in
    let same : q.operator ≡ r.operator = (bytes_eq-Decides _ _).0 parts.1 in
    rw same (and_from (not (is_zero r.operator)) (bytes_eq r.operator r.operator) parts.0 ((bytes_eq-Decides r.operator r.operator).1 refl))

turn_services : (r q : MnRow) → has_service r.service q ≡ true → has_service q.service r ≡ true
turn_services r q h =
    let parts = and_parts (not (no_service r.service)) (same_service q.service r.service) h in
    let both = and_parts (bytes_eq q.service.address r.service.address) (q.service.port == r.service.port) parts.1 in
    let address : q.service.address ≡ r.service.address = (bytes_eq-Decides _ _).0 both.0 in
    let port : q.service.port ≡ r.service.port = eqb-true _ _ both.1 in
    rw (address, port) (and_from (not (no_service r.service)) (same_service r.service r.service) parts.0 (and_from _ _ ((bytes_eq-Decides r.service.address r.service.address).1 refl) (eq-eqb _ _ refl)))

turn_collaterals : (r q : MnRow) → has_collateral r.collateral q ≡ true → has_collateral q.collateral r ≡ true
turn_collaterals r q h = same_point-from r.collateral q.collateral (sym (same_point-is q.collateral r.collateral h))

-- a row is put whose keys no row of another hash has
pub HasDistinctKeys-put_row : (row : MnRow) (rows : List MnRow) → IsAscending rows → HasDistinctKeys rows → IsFree (λ r. has_owner r.owner) row rows → IsFree (λ r. has_operator r.operator) row rows → IsFree (λ r. has_service r.service) row rows → IsFree (λ r. has_collateral r.collateral) row rows → HasDistinctKeys (put_row row rows)
HasDistinctKeys-put_row row rows ascending distinct owner operator service collateral = record {
  hashes = AreDistinct-ascends hash_cmp (λ r. r.hash) has_hash row_key (put_row row rows) (IsAscending-put_row row rows ascending);
  owners = AreDistinct-put_row (λ r. has_owner r.owner) turn_owners row rows ascending distinct.owners owner;
  operators = AreDistinct-put_row (λ r. has_operator r.operator) turn_operators row rows ascending distinct.operators operator;
  services = AreDistinct-put_row (λ r. has_service r.service) turn_services row rows ascending distinct.services service;
  collaterals = AreDistinct-put_row (λ r. has_collateral r.collateral) turn_collaterals row rows ascending distinct.collaterals collateral;
}

pub HasDistinctKeys-filter : (keep : MnRow → Bool) (rows : List MnRow) → HasDistinctKeys rows → HasDistinctKeys (filter keep rows)
HasDistinctKeys-filter keep rows distinct = record {
  hashes = AreDistinct-filter _ keep rows distinct.hashes;
  owners = AreDistinct-filter _ keep rows distinct.owners;
  operators = AreDistinct-filter _ keep rows distinct.operators;
  services = AreDistinct-filter _ keep rows distinct.services;
  collaterals = AreDistinct-filter _ keep rows distinct.collaterals;
}

-- ---- at a height

map_none : {A B : Type 0} (f : A → B) (o : Option A) → o ≡ None → option_map f o ≡ None
map_none f o none = ap (option_map f) none

none_from_map : {A B : Type 0} (f : A → B) (o : Option A) → option_map f o ≡ None → o ≡ None
none_from_map f None none = refl
none_from_map f (Some a) none = cc

-- that two rows have one key doesn't hang on what `plain` changes
abbrev pub AreBlind : (MnRow → MnRow → Bool) → Type 0
AreBlind same = (h : ℕ) (r q : MnRow) → same (plain h r) (plain h q) ≡ same r q

same-plain : (same : MnRow → MnRow → Bool) → AreBlind same → (h : ℕ) (r : MnRow) (rows : List MnRow) → find (same (plain h r)) (plain_rows h rows) ≡ option_map (plain h) (find (same r) rows)
same-plain same blind h r [] = refl
same-plain same blind h r (q ∷ rows) =
    ap (λ b. cond b (Some (plain h q)) (find (same (plain h r)) (plain_rows h rows))) (blind h r q)
    ∙ elim (same r q) as (λ b. cond b (Some (plain h q)) (find (same (plain h r)) (plain_rows h rows)) ≡ option_map (plain h) (cond b (Some q) (find (same r) rows))) [ true ↦ refl | false ↦ same-plain same blind h r rows ]

pub AreDistinct-plain : (same : MnRow → MnRow → Bool) → AreBlind same → (h : ℕ) (rows : List MnRow) → AreDistinct same rows → AreDistinct same (plain_rows h rows)
AreDistinct-plain same blind h [] distinct = tt
AreDistinct-plain same blind h (r ∷ rows) distinct =
    (same-plain same blind h r rows ∙ map_none (plain h) (find (same r) rows) distinct.0, AreDistinct-plain same blind h rows distinct.1)

pub AreDistinct-from_plain : (same : MnRow → MnRow → Bool) → AreBlind same → (h : ℕ) (rows : List MnRow) → AreDistinct same (plain_rows h rows) → AreDistinct same rows
AreDistinct-from_plain same blind h [] distinct = tt
AreDistinct-from_plain same blind h (r ∷ rows) distinct =
    (none_from_map (plain h) (find (same r) rows) (sym (same-plain same blind h r rows) ∙ distinct.0), AreDistinct-from_plain same blind h rows distinct.1)

pub HasDistinctKeys-plain : (h : ℕ) (rows : List MnRow) → HasDistinctKeys rows → HasDistinctKeys (plain_rows h rows)
HasDistinctKeys-plain h rows distinct = record {
  hashes = AreDistinct-plain _ (λ _ _ _. refl) h rows distinct.hashes;
  owners = AreDistinct-plain _ (λ _ _ _. refl) h rows distinct.owners;
  operators = AreDistinct-plain _ (λ _ _ _. refl) h rows distinct.operators;
  services = AreDistinct-plain _ (λ _ _ _. refl) h rows distinct.services;
  collaterals = AreDistinct-plain _ (λ _ _ _. refl) h rows distinct.collaterals;
}

pub HasDistinctKeys-from_plain : (h : ℕ) (rows : List MnRow) → HasDistinctKeys (plain_rows h rows) → HasDistinctKeys rows
HasDistinctKeys-from_plain h rows distinct = record {
  hashes = AreDistinct-from_plain (λ r. has_hash r.hash) (λ _ _ _. refl) h rows distinct.hashes;
  owners = AreDistinct-from_plain (λ r. has_owner r.owner) (λ _ _ _. refl) h rows distinct.owners;
  operators = AreDistinct-from_plain (λ r. has_operator r.operator) (λ _ _ _. refl) h rows distinct.operators;
  services = AreDistinct-from_plain (λ r. has_service r.service) (λ _ _ _. refl) h rows distinct.services;
  collaterals = AreDistinct-from_plain (λ r. has_collateral r.collateral) (λ _ _ _. refl) h rows distinct.collaterals;
}
