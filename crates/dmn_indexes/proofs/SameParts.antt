-- A row that is put in the place of one with the same parts leaves these parts of the list as they were.
use Rattle.std.proofs.Common.{◌≡◌, Bool, false, not, ◌&&◌, cond, List, [], ◌∷◌, map, find, Option, Some, None, refl, sym, ap, ◌∙◌, subst}
use Rattle.std.specs.Option.{option_map, unwrap_or}
use Rattle.std.specs.Str.{bytes_eq}
use Rattle.dmn_bytes.specs.Points.{is_zero, hash_cmp}
use Rattle.dmn_rows.specs.declared.row.MnRow.{MnRow}
use Rattle.dmn_rows.specs.Distinct.{AreDistinct, HasDistinctKeys}
use Rattle.dmn_rows.specs.Listing.{IsAscending}
use Rattle.dmn_rows.specs.Rows.{same_hash, same_point, same_service, no_service, has_hash, put_row}
use Rattle.dmn_rows.proofs.Keys.{row_key}
use Rattle.dmn_rows.proofs.Lookups.{none_parts, none_joined}
use Rattle.dmn_rows.proofs.Sorted.{is_lower, is_it, is_higher, meets, none_found, differs_below, put_below, put_same}
use Rattle.dmn_indexes.specs.Parts.{keys_of}

module _ {A : Type 0} (part : MnRow → A) where
  some_is : (w : MnRow) (x : A) → option_map part (Some w) ≡ Some x → part w ≡ x
  some_is w x e = ap (λ (o : Option A). unwrap_or o x) e

  pub map-put_same : (row : MnRow) (rows : List MnRow) → IsAscending rows → option_map part (find (has_hash row.hash) rows) ≡ Some (part row) → map part (put_row row rows) ≡ map part rows
  map-put_same row [] ascending there = cc
  map-put_same row (w ∷ list) ascending there = elim (meets hash_cmp (λ (r : MnRow). r.hash) has_hash row_key row.hash w list ascending) [
    | is_lower less ↦
        let other : has_hash row.hash w ≡ false = differs_below hash_cmp (λ (r : MnRow). r.hash) has_hash row_key row.hash w less in
        ap (map part) (put_below hash_cmp (λ (r : MnRow). r.hash) has_hash row_key row w list less)
        ∙ ap (λ l. part w ∷ l) (map-put_same row list ascending.1 (sym (ap (λ b. option_map part (cond b (Some w) (find (has_hash row.hash) list))) other) ∙ there))
    | is_it not_below same above ↦
        ap (map part) (put_same hash_cmp (λ (r : MnRow). r.hash) has_hash row_key row w list not_below same above)
        ∙ ap (λ x. x ∷ map part list) (sym (some_is w (part row) (sym (ap (λ b. option_map part (cond b (Some w) (find (has_hash row.hash) list))) same) ∙ there)))
    | is_higher not_below differs above ↦
        let none : find (has_hash row.hash) (w ∷ list) ≡ None = none_found hash_cmp (λ (r : MnRow). r.hash) has_hash row_key row.hash (w ∷ list) above in
        let no_more : None ≡ Some (part row) = sym (ap (option_map part) none) ∙ there in
        cc
  ]

module _ {V K : Type 0} (part : V → K) where
  none_in_map : (test : K → Bool) (list : List V) → find (λ v. test (part v)) list ≡ None → find test (map part list) ≡ None
  none_in_map test [] none = refl
  none_in_map test (v ∷ list) none =
      let parts = none_parts (λ w. test (part w)) v list none in none_joined test (part v) (map part list) parts.0 (none_in_map test list parts.1)

  none_by_map : (test : K → Bool) (list : List V) → find test (map part list) ≡ None → find (λ v. test (part v)) list ≡ None
  none_by_map test [] none = refl
  none_by_map test (v ∷ list) none =
      let parts = none_parts test (part v) (map part list) none in none_joined (λ w. test (part w)) v list parts.0 (none_by_map test list parts.1)

  distinct_in_map : (same : K → K → Bool) (list : List V) → AreDistinct (λ v w. same (part v) (part w)) list → AreDistinct same (map part list)
  distinct_in_map same [] distinct = tt
  distinct_in_map same (v ∷ list) distinct = (none_in_map (same (part v)) list distinct.0, distinct_in_map same list distinct.1)

  distinct_by_map : (same : K → K → Bool) (list : List V) → AreDistinct same (map part list) → AreDistinct (λ v w. same (part v) (part w)) list
  distinct_by_map same [] distinct = tt
  distinct_by_map same (v ∷ list) distinct = (none_by_map (same (part v)) list distinct.0, distinct_by_map same list distinct.1)

  -- lists with the same parts are distinct by these together
  distinct_as : (same : K → K → Bool) (list more : List V) → map part more ≡ map part list → AreDistinct (λ v w. same (part v) (part w)) list → AreDistinct (λ v w. same (part v) (part w)) more
  distinct_as same list more e distinct = distinct_by_map same more (subst (λ ks. AreDistinct same ks) (sym e) (distinct_in_map same list distinct))

same_keys : (rows more : List MnRow) → map keys_of more ≡ map keys_of rows → HasDistinctKeys rows → HasDistinctKeys more
same_keys rows more e distinct = record {
  hashes = distinct_as keys_of (λ k m. same_hash m.hash k.hash) rows more e distinct.hashes;
  owners = distinct_as keys_of (λ k m. bytes_eq m.owner k.owner) rows more e distinct.owners;
  operators = distinct_as keys_of (λ k m. not (is_zero k.operator) && bytes_eq m.operator k.operator) rows more e distinct.operators;
  services = distinct_as keys_of (λ k m. not (no_service k.service) && same_service m.service k.service) rows more e distinct.services;
  collaterals = distinct_as keys_of (λ k m. same_point m.collateral k.collateral) rows more e distinct.collaterals;
}

-- a row in the place of one with the same keys leaves the keys distinct
pub HasDistinctKeys-set : (row : MnRow) (rows : List MnRow) → IsAscending rows → option_map keys_of (find (has_hash row.hash) rows) ≡ Some (keys_of row) → HasDistinctKeys rows → HasDistinctKeys (put_row row rows)
HasDistinctKeys-set row rows ascending there distinct = same_keys rows (put_row row rows) (map-put_same keys_of row rows ascending there) distinct
