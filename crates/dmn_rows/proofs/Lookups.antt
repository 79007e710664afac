-- Look-ups in stored rows, and the same in rows as they are seen at a height.
use Rattle.std.proofs.Common.{◌≡◌, ℕ, Bool, true, false, not, cond, List, [], ◌∷◌, ◌++◌, find, filter, Option, Some, None, refl, sym, ap, ◌∙◌, inl, inr, subst}
use Rattle.std.specs.Prelude.{is_some}
use Rattle.std.specs.Option.{option_map, option_or}
use Rattle.std.specs.Ordering.{is_lt}
use Rattle.std.proofs.lemmas.Bool.{cases_Bool, false_from_ne_true}
use Rattle.std.proofs.lemmas.List.{map-append}
use Rattle.dmn_bytes.specs.Points.{hash_cmp, point_cmp}
use Rattle.dmn_bytes.specs.declared.points.OutPoint.{OutPoint}
use Rattle.dmn_bytes.specs.declared.points.Pay.{Pay}
use Rattle.dmn_bytes.specs.declared.hash.Hash256.{Hash256}
use Rattle.dmn_rows.specs.declared.row.MnRow.{MnRow}
use Rattle.dmn_rows.specs.declared.start.StartOutput.{StartOutput}
use Rattle.dmn_rows.specs.Row.{plain}
use Rattle.dmn_rows.specs.Rows.{Outputs, same_point, has_hash, hash_where, plain_rows, put_row, drop_row, has_point, output_at, put_output, drop_output}
use Rattle.dmn_rows.specs.Sorted.{IsAbove, put_sorted}
use Rattle.dmn_rows.specs.Listing.{IsAscending, OutputsAscend}
use Rattle.dmn_rows.proofs.Sorted.{find-put_sorted, find-dropped, find-drop_other}
use Rattle.dmn_rows.proofs.Keys.{row_key, output_key, same_point-is, same_point-from}

-- ---- where a test finds nothing

-- what fails at the first value, and behind it
pub none_parts : {V : Type 0} (test : V → Bool) (v : V) (list : List V) → find test (v ∷ list) ≡ None → (test v ≡ false) × (find test list ≡ None)
none_parts test v list none = elim (cases_Bool (test v)) [
  | inl passes ↦ let hit : Some v ≡ None = sym (ap (λ b. cond b (Some v) (find test list)) passes) ∙ none in cc
  | inr fails ↦ (fails, sym (ap (λ b. cond b (Some v) (find test list)) fails) ∙ none)
]

pub none_joined : {V : Type 0} (test : V → Bool) (v : V) (list : List V) → test v ≡ false → find test list ≡ None → find test (v ∷ list) ≡ None
none_joined test v list fails none = ap (λ b. cond b (Some v) (find test list)) fails ∙ none

-- where a weaker test finds nothing, a stronger one finds nothing
pub find-stronger : {V : Type 0} (weak strong : V → Bool) → ((v : V) → strong v ≡ true → weak v ≡ true) → (list : List V) → find weak list ≡ None → find strong list ≡ None
find-stronger weak strong implies [] none = refl
find-stronger weak strong implies (v ∷ list) none =
    let parts = none_parts weak v list none in
    none_joined strong v list (false_from_ne_true (strong v) (λ passes. let no : true ≡ false = sym (implies v passes) ∙ parts.0 in cc)) (find-stronger weak strong implies list parts.1)

-- nor is it found in part of the list
pub find-filter : {V : Type 0} (test keep : V → Bool) (list : List V) → find test list ≡ None → find test (filter keep list) ≡ None
find-filter test keep [] none = refl
find-filter test keep (v ∷ list) none =
    let parts = none_parts test v list none in
    elim (keep v) as (λ b. find test (cond b (v ∷ filter keep list) (filter keep list)) ≡ None) [
      | true ↦ none_joined test v (filter keep list) parts.0 (find-filter test keep list parts.1)
      | false ↦ find-filter test keep list parts.1
    ]

-- where a test finds nothing, nothing is filtered out by it
pub filter_none : {V : Type 0} (test : V → Bool) (list : List V) → find test list ≡ None → filter (λ v. not (test v)) list ≡ list
filter_none test [] none = refl
filter_none test (v ∷ list) none =
    let parts = none_parts test v list none in
    ap (λ b. cond (not b) (v ∷ filter (λ w. not (test w)) list) (filter (λ w. not (test w)) list)) parts.0 ∙ ap (λ rest. v ∷ rest) (filter_none test list parts.1)

-- ---- at a height

-- the test doesn't read what `plain` changes
abbrev pub IsBlind : (MnRow → Bool) → Type 0
IsBlind test = (h : ℕ) (r : MnRow) → test (plain h r) ≡ test r

pub find-plain : (test : MnRow → Bool) → IsBlind test → (h : ℕ) (rows : List MnRow) → find test (plain_rows h rows) ≡ option_map (plain h) (find test rows)
find-plain test blind h [] = refl
find-plain test blind h (r ∷ rows) =
    ap (λ b. cond b (Some (plain h r)) (find test (plain_rows h rows))) (blind h r)
    ∙ elim (test r) as (λ b. cond b (Some (plain h r)) (find test (plain_rows h rows)) ≡ option_map (plain h) (cond b (Some r) (find test rows))) [ true ↦ refl | false ↦ find-plain test blind h rows ]

-- the hash of a row is the same at each height
hash-plain : (h : ℕ) (o : Option MnRow) → option_map (λ r. r.hash) (option_map (plain h) o) ≡ option_map (λ r. r.hash) o
hash-plain h None = refl
hash-plain h (Some r) = refl

pub hash_where-plain : (test : MnRow → Bool) → IsBlind test → (h : ℕ) (rows : List MnRow) → hash_where test (plain_rows h rows) ≡ hash_where test rows
hash_where-plain test blind h rows = ap (option_map (λ r. r.hash)) (find-plain test blind h rows) ∙ hash-plain h (find test rows)

pub filter-plain : (test : MnRow → Bool) → IsBlind test → (h : ℕ) (rows : List MnRow) → filter test (plain_rows h rows) ≡ plain_rows h (filter test rows)
filter-plain test blind h [] = refl
filter-plain test blind h (r ∷ rows) =
    ap (λ b. cond b (plain h r ∷ filter test (plain_rows h rows)) (filter test (plain_rows h rows))) (blind h r)
    ∙ ap (λ rest. cond (test r) (plain h r ∷ rest) rest) (filter-plain test blind h rows)
    ∙ elim (test r) as (λ b. cond b (plain h r ∷ plain_rows h (filter test rows)) (plain_rows h (filter test rows)) ≡ plain_rows h (cond b (r ∷ filter test rows) (filter test rows))) [ true ↦ refl | false ↦ refl ]

-- a row that is put among stored rows is put among the rows that are seen
pub put_row-plain : (h : ℕ) (row : MnRow) (rows : List MnRow) → plain_rows h (put_row row rows) ≡ put_row (plain h row) (plain_rows h rows)
put_row-plain h row rows =
    let below = λ (r : MnRow). is_lt (hash_cmp r.hash row.hash) in
    let above = λ (r : MnRow). is_lt (hash_cmp row.hash r.hash) in
    map-append (plain h) (filter below rows) (row ∷ filter above rows)
    ∙ ap (λ (front : List MnRow). front ++ plain h row ∷ plain_rows h (filter above rows)) (sym (filter-plain below (λ _ _. refl) h rows))
    ∙ ap (λ (rest : List MnRow). filter below (plain_rows h rows) ++ plain h row ∷ rest) (sym (filter-plain above (λ _ _. refl) h rows))

pub drop_row-plain : (h : ℕ) (hash : Hash256) (rows : List MnRow) → plain_rows h (drop_row hash rows) ≡ drop_row hash (plain_rows h rows)
drop_row-plain h hash rows = sym (filter-plain (λ r. not (has_hash hash r)) (λ _ _. refl) h rows)

above-plain : (h : ℕ) (hash : Hash256) (rows : List MnRow) → IsAbove hash_cmp (λ (r : MnRow). r.hash) hash rows → IsAbove hash_cmp (λ r. r.hash) hash (plain_rows h rows)
above-plain h hash [] above = tt
above-plain h hash (r ∷ rows) above = (above.0, above-plain h hash rows above.1)

pub IsAscending-plain : (h : ℕ) (rows : List MnRow) → IsAscending rows → IsAscending (plain_rows h rows)
IsAscending-plain h [] ascending = tt
IsAscending-plain h (r ∷ rows) ascending = (above-plain h r.hash rows ascending.0, IsAscending-plain h rows ascending.1)

-- ---- behind a put or a drop

pub find-put_row : (hash : Hash256) (row : MnRow) (rows : List MnRow) → IsAscending rows → find (has_hash hash) (put_row row rows) ≡ cond (has_hash hash row) (Some row) (find (has_hash hash) rows)
find-put_row = find-put_sorted hash_cmp (λ r. r.hash) has_hash row_key

pub find-drop_row : (hash : Hash256) (rows : List MnRow) → find (has_hash hash) (drop_row hash rows) ≡ None
find-drop_row = find-dropped hash_cmp (λ r. r.hash) has_hash row_key

pub find-drop_other_row : (dropped hash : Hash256) → (dropped ≡ hash → ⊥) → (rows : List MnRow) → find (has_hash hash) (drop_row dropped rows) ≡ find (has_hash hash) rows
find-drop_other_row = find-drop_other hash_cmp (λ r. r.hash) has_hash row_key

pub output_at-drop_output : (point : OutPoint) (outputs : Outputs) → output_at (drop_output point outputs) point ≡ None
output_at-drop_output point outputs = ap (option_map (λ output. output.pay)) (find-dropped point_cmp (λ o. o.point) has_point output_key point outputs)

pub output_at-drop_other : (dropped point : OutPoint) → (dropped ≡ point → ⊥) → (outputs : Outputs) → output_at (drop_output dropped outputs) point ≡ output_at outputs point
output_at-drop_other dropped point other outputs = ap (option_map (λ output. output.pay)) (find-drop_other point_cmp (λ o. o.point) has_point output_key dropped point other outputs)

or_none : {A : Type 0} (o : Option A) → o ≡ option_or o None
or_none None = refl
or_none (Some a) = refl

-- an output that is there stays, and the one that is put is found where none was
pub output_at-put_output : (put point : OutPoint) (pays : Pay) (outputs : Outputs) → OutputsAscend outputs → output_at (put_output put pays outputs) point ≡ option_or (output_at outputs point) (cond (same_point put point) (Some pays) None)
output_at-put_output put point pays outputs ascending = elim (cases_Bool (same_point put point)) [
  | inl same ↦
      let is : put ≡ point = same_point-is put point same in
      rw same (subst (λ (p : OutPoint). output_at (put_output p pays outputs) point ≡ option_or (output_at outputs point) (Some pays)) (sym is) (at_it (find (has_point point) outputs) refl))
  | inr differs ↦ rw differs (elsewhere differs (is_some (find (has_point put) outputs)) ∙ or_none (output_at outputs point))
]
  where
    added : OutPoint → Outputs
    added p = put_sorted point_cmp (λ (o : StartOutput). o.point) (record { point = p; pay = pays }) outputs

    found : (p : OutPoint) → find (has_point point) (added p) ≡ cond (same_point p point) (Some (record { point = p; pay = pays })) (find (has_point point) outputs)
    found p = find-put_sorted point_cmp (λ o. o.point) has_point output_key point (record { point = p; pay = pays }) outputs ascending

    at_it : (o : Option StartOutput) → find (has_point point) outputs ≡ o → output_at (put_output point pays outputs) point ≡ option_or (output_at outputs point) (Some pays)
    at_it None none = rw none (ap (option_map (λ (o : StartOutput). o.pay)) (found point ∙ ap (λ b. cond b (Some (record { point = point; pay = pays })) (find (has_point point) outputs)) (same_point-from point point refl)))
    at_it (Some output) some = rw some (ap (option_map (λ (o : StartOutput). o.pay)) some)

    elsewhere : same_point put point ≡ false → (b : Bool) → option_map (λ (o : StartOutput). o.pay) (find (has_point point) (cond b outputs (added put))) ≡ output_at outputs point
    elsewhere differs true = refl
    elsewhere differs false = ap (option_map (λ (o : StartOutput). o.pay)) (found put ∙ ap (λ b. cond b (Some (record { point = put; pay = pays })) (find (has_point point) outputs)) differs)
