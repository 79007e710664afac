-- Rows that are confirmed one after another, and the row of a payee that is marked.
use Rattle.std.proofs.Common.{◌≡◌, ℕ, suc, ◌+◌, ◌≤◌, Bool, true, false, cond, List, [], ◌∷◌, length, find, filter, None, Some, refl, sym, ap, ◌∙◌, arith}
use Rattle.std.specs.List.{All}
use Rattle.std.specs.Option.{option_map, unwrap_or}
use Rattle.std.specs.Prelude.{Result, Ok, Err, OnOk}
use Rattle.std.proofs.lemmas.List.Elements.{All-cons}
use Rattle.dmn_bytes.specs.Points.{is_zero, hash_cmp}
use Rattle.dmn_bytes.specs.declared.hash.Hash256.{Hash256}
use Rattle.dmn_indexes.specs.Parts.{keys_of}
use Rattle.dmn_indexes.proofs.SameParts.{map-put_same, HasDistinctKeys-set}
use Rattle.dmn_rows.specs.declared.row.MnRow.{MnRow}
use Rattle.dmn_rows.specs.Keys.{row_key, same_hash-is}
use Rattle.dmn_rows.specs.Listing.{IsAscending}
use Rattle.dmn_rows.specs.Rows.{has_hash, put_row}
use Rattle.dmn_rows.specs.Waiting.{is_due}
use Rattle.dmn_rows.proofs.Keys.{IsAscending-put_row}
use Rattle.dmn_rows.proofs.Lookups.{none_parts}
use Rattle.dmn_rows.proofs.Sorted.{is_lower, is_it, is_higher, meets, none_found, differs_below, put_below, put_same}
use Rattle.dmn_standing.specs.Standing.{confirm, confirmed}
use Rattle.dmn_branch.specs.Events.{confirmations}
use Rattle.dmn_branch.specs.Parts.{IsWorking}
use Rattle.dmn_branch.proofs.Judging.{all_put}

-- ---- a row in the place of one with the same keys

pub working_set : (height : ℕ) (row : MnRow) (rows new : List MnRow) → new ≡ put_row row rows → option_map keys_of (find (has_hash row.hash) rows) ≡ Some (keys_of row) → row.penalty_at ≤ height → IsWorking height rows → IsWorking height new
working_set height row rows new is there low working = rw is (record {
  keys = HasDistinctKeys-set row rows working.ascending there working.keys;
  ascending = IsAscending-put_row row rows working.ascending;
  penalties = all_put (λ r. r.penalty_at ≤ height) row rows low working.penalties;
})

-- what holds of all rows holds of the one that is found
pub found_holds : (P : MnRow → Type 0) (test : MnRow → Bool) (row : MnRow) (rows : List MnRow) → find test rows ≡ Some row → All P rows → P row
found_holds P test row [] is all = cc
found_holds P test row (r ∷ rows) is all = go (test r) (λ e. found_holds P test row rows e (λ k d lt. all (suc k) d (omega (arith, lt)))) is
  where
    go : (b : Bool) → (find test rows ≡ Some row → P row) → cond b (Some r) (find test rows) ≡ Some row → P row
    go true later e = let same : r ≡ row = ap (λ o. unwrap_or o row) e in rw (← same) (all 0 r (omega arith))
    go false later e = later e

found_passes : (test : MnRow → Bool) (row : MnRow) (rows : List MnRow) → find test rows ≡ Some row → test row ≡ true
found_passes test row [] is = cc
found_passes test row (r ∷ rows) is = go (test r) refl (λ e. found_passes test row rows e) is
  where
    go : (b : Bool) → test r ≡ b → (find test rows ≡ Some row → test row ≡ true) → cond b (Some r) (find test rows) ≡ Some row → test row ≡ true
    go true passes later e = let same : r ≡ row = ap (λ o. unwrap_or o row) e in rw (← same) passes
    go false fails later e = later e

-- the row of a hash has the keys of the row of its own hash
pub found_keys : (hash : Hash256) (row : MnRow) (rows : List MnRow) → find (has_hash hash) rows ≡ Some row → option_map keys_of (find (has_hash row.hash) rows) ≡ Some (keys_of row)
found_keys hash row rows is =
    let same : row.hash ≡ hash = same_hash-is row.hash hash (found_passes (has_hash hash) row rows is) in
    ap (λ (h : Hash256). option_map keys_of (find (has_hash h) rows)) same ∙ ap (option_map keys_of) is

pub working_put : {V E : Type 0} (result : Result V E) (height : ℕ) (row : MnRow) (rows new : List MnRow) → OnOk result (new ≡ put_row row rows) → option_map keys_of (find (has_hash row.hash) rows) ≡ Some (keys_of row) → row.penalty_at ≤ height → IsWorking height rows → OnOk result (IsWorking height new)
working_put (Ok v) height row rows new is there low working = working_set height row rows new is there low working
working_put (Err e) height row rows new is there low working = tt

-- ---- one row is confirmed

module _ (wait height : ℕ) (hash : Hash256) (some : is_zero hash.0 ≡ false) where
  abbrev now_confirmed : MnRow → MnRow
  now_confirmed row = record row { confirmed = hash }

  -- it isn't due any more
  done : (row : MnRow) → is_due wait height (now_confirmed row) ≡ false
  done row = rw some refl

  by_this : (row : MnRow) → is_due wait height row ≡ true → confirm wait height hash row ≡ now_confirmed row
  by_this row due = rw due refl

  stays : (row : MnRow) → confirm wait height hash (now_confirmed row) ≡ now_confirmed row
  stays row = rw (done row) refl

  -- once a row that is due is confirmed, the list is to be confirmed to the same as before
  pub confirmed_one : (row : MnRow) (rows : List MnRow) → IsAscending rows → find (has_hash row.hash) rows ≡ Some row → is_due wait height row ≡ true → confirmed wait height hash (put_row (now_confirmed row) rows) ≡ confirmed wait height hash rows
  confirmed_one row rows ascending there due =
      map-put_same (confirm wait height hash) (now_confirmed row) rows ascending
      (ap (option_map (confirm wait height hash)) there ∙ ap (λ (r : MnRow). Some r) (by_this row due ∙ sym (stays row)))

  -- and one row less is due
  pub one_less : (row : MnRow) (rows : List MnRow) → IsAscending rows → find (has_hash row.hash) rows ≡ Some row → is_due wait height row ≡ true → confirmations wait height (put_row (now_confirmed row) rows) + 1 ≡ confirmations wait height rows
  one_less row [] ascending there due = cc
  one_less row (w ∷ list) ascending there due = elim (meets hash_cmp (λ (r : MnRow). r.hash) has_hash row_key row.hash w list ascending) [
    | is_lower less ↦
        let other : has_hash row.hash w ≡ false = differs_below hash_cmp (λ (r : MnRow). r.hash) has_hash row_key row.hash w less in
        let behind : find (has_hash row.hash) list ≡ Some row = sym (ap (λ b. cond b (Some w) (find (has_hash row.hash) list)) other) ∙ there in
        let put = ap (confirmations wait height) (put_below hash_cmp (λ (r : MnRow). r.hash) has_hash row_key (now_confirmed row) w list less) in
        let rest = one_less row list ascending.1 behind due in
        counted (is_due wait height w) w (put_row (now_confirmed row) list) list _ put refl refl rest
    | is_it not_below same above ↦
        let here : w ≡ row = ap (λ o. unwrap_or o row) (sym (ap (λ b. cond b (Some w) (find (has_hash row.hash) list)) same) ∙ there) in
        let put = ap (confirmations wait height) (put_same hash_cmp (λ (r : MnRow). r.hash) has_hash row_key (now_confirmed row) w list not_below same above) in
        let left : confirmations wait height (now_confirmed row ∷ list) ≡ confirmations wait height list = rw (done row) refl in
        let was : confirmations wait height (w ∷ list) ≡ suc (confirmations wait height list) = rw (here, due) refl in
        omega (arith, put, left, was)
    | is_higher not_below differs above ↦
        let none : find (has_hash row.hash) (w ∷ list) ≡ None = none_found hash_cmp (λ (r : MnRow). r.hash) has_hash row_key row.hash (w ∷ list) above in
        let no_more : None ≡ Some row = sym none ∙ there in
        cc
  ]
    where
      counted : (b : Bool) (w : MnRow) (new old : List MnRow) (n : ℕ) → n ≡ length (filter (is_due wait height) (w ∷ new)) → is_due wait height w ≡ b → n ≡ n → confirmations wait height new + 1 ≡ confirmations wait height old → n + 1 ≡ confirmations wait height (w ∷ old)
      counted true w new old n is at _ rest = let a : confirmations wait height (w ∷ new) ≡ suc (confirmations wait height new) = rw at refl in let b : confirmations wait height (w ∷ old) ≡ suc (confirmations wait height old) = rw at refl in omega (arith, is, a, b, rest)
      counted false w new old n is at _ rest = let a : confirmations wait height (w ∷ new) ≡ confirmations wait height new = rw at refl in let b : confirmations wait height (w ∷ old) ≡ confirmations wait height old = rw at refl in omega (arith, is, a, b, rest)

-- where none is due, the list is confirmed
pub none_due : (wait height : ℕ) (hash : Hash256) (rows : List MnRow) → find (is_due wait height) rows ≡ None → (confirmed wait height hash rows ≡ rows) × (confirmations wait height rows ≡ 0)
none_due wait height hash [] none = (refl, refl)
none_due wait height hash (row ∷ rows) none =
    let parts = none_parts (is_due wait height) row rows none in
    let rest = none_due wait height hash rows parts.1 in
    (rw (parts.0, rest.0) refl, rw parts.0 rest.1)

-- ---- all rows are confirmed

-- confirmed rows have the penalties that they had
pub confirmed_all : (n wait height : ℕ) (hash : Hash256) (rows : List MnRow) → All (λ row. row.penalty_at ≤ n) rows → All (λ row. row.penalty_at ≤ n) (confirmed wait height hash rows)
confirmed_all n wait height hash [] all = all
confirmed_all n wait height hash (row ∷ rows) all =
    All-cons (λ (r : MnRow). r.penalty_at ≤ n) (confirm wait height hash row) (confirmed wait height hash rows)
    (elim (is_due wait height row) as (λ b. (cond b (record row { confirmed = hash }) row).penalty_at ≤ n) [ true ↦ all 0 row (omega arith) | false ↦ all 0 row (omega arith) ])
    (confirmed_all n wait height hash rows (λ k d lt. all (suc k) d (omega (arith, lt))))
