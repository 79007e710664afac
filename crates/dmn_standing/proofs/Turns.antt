-- Turns in their order, and the forecast as the front of the turns that were sorted.
use Rattle.std.proofs.Common.{◌≡◌, ℕ, zero, suc, ◌+◌, ◌≤◌, ◌<◌, Bool, true, false, not, cond, List, [], ◌∷◌, map, length, get_or, filter, take, drop, slice_get, Option, Some, None, refl, sym, ap, ◌∙◌, ◌⊎◌, inl, inr, arith, zero-add, add-one, drop-cons}
use Rattle.std.specs.List.{sum_by}
use Rattle.std.specs.Prelude.{◌==◌}
use Rattle.std.specs.Option.{option_map}
use Rattle.std.specs.Cmp.{IsTotalOrder}
use Rattle.std.specs.Ordering.{nat_cmp}
use Rattle.std.specs.declared.cmp.Ordering.{Ordering}
use Rattle.std.specs.declared.cmp.Ordering.TheVariants.{Less, Equal, Greater}
use Rattle.std.proofs.lemmas.Bool.{cases_Bool, false_from_ne_true, eqb-true}
use Rattle.std.proofs.lemmas.Cmp.{nat_cmp_total, on_total, then_total}
use Rattle.std.proofs.lemmas.List.Sums.{sum_by-cons}
use Rattle.std.proofs.lemmas.Map.Lookups.{exact_unsigned}
use Rattle.dmn_bytes.specs.declared.hash.Hash256.{Hash256}
use Rattle.dmn_bytes.specs.Points.{hash_cmp}
use Rattle.dmn_rows.specs.declared.row.MnRow.{MnRow}
use Rattle.dmn_rows.specs.Keys.{hash_cmp_total, hash_exact, same_hash-is, same_hash-from, row_key}
use Rattle.dmn_rows.specs.Listing.{IsAscending}
use Rattle.dmn_rows.specs.Ranked.{lesser_of, least, ranked}
use Rattle.dmn_rows.specs.Row.{pay_key, plain}
use Rattle.dmn_rows.specs.Rows.{same_hash, has_hash, drop_row, plain_rows}
use Rattle.dmn_rows.specs.Sorted.{IsAbove}
use Rattle.dmn_rows.specs.Waiting.{is_unbanned, turn_cmp, pay_order}
use Rattle.dmn_rows.proofs.Least.{least_below_none}
use Rattle.dmn_rows.proofs.Lookups.{IsAscending-plain}
use Rattle.dmn_rows.proofs.Keys.{IsAscending-filter}
use Rattle.dmn_rows.proofs.Ranked.{front, least_is_front, least_map, ranked_map, sum_ranked, ranked_kept, lesser_more}
use Rattle.dmn_rows.proofs.Sorted.{differs_above}
use Rattle.dmn_standing.specs.declared.payment.Due.{Due}
use Rattle.dmn_standing.specs.Dues.{due_cmp, due_of, dues}
use Rattle.dmn_standing.specs.Payment.{payee, and_then, forecast, IsFirst}

-- ---- the order of turns

pub due_total : IsTotalOrder due_cmp
due_total = then_total (on_total (λ (d : Due). d.key) nat_cmp_total) (on_total (λ (d : Due). d.hash) hash_cmp_total)

pub due_exact : (a b : Due) → due_cmp a b ≡ Equal → a ≡ b
due_exact a b is = go (nat_cmp a.key b.key) refl
  where
    go : (o : Ordering) → nat_cmp a.key b.key ≡ o → a ≡ b
    go Less e = let no : due_cmp a b ≡ Less = rw e refl in cc
    go Equal e =
        let tie : due_cmp a b ≡ hash_cmp a.hash b.hash = rw e refl in
        let key : a.key ≡ b.key = exact_unsigned a.key b.key e in
        let hash : a.hash ≡ b.hash = hash_exact a.hash b.hash (sym tie ∙ is) in
        ap (λ (n : ℕ). record { key = n; hash = a.hash }) key ∙ ap (λ (h : Hash256). record { key = b.key; hash = h }) hash
    go Greater e = let no : due_cmp a b ≡ Greater = rw e refl in cc

turn_total : IsTotalOrder turn_cmp
turn_total = then_total (on_total pay_key nat_cmp_total) (on_total (λ (r : MnRow). r.hash) hash_cmp_total)

-- ---- rows by their turns

hash_of_due : (o : Option MnRow) → option_map (λ d. d.hash) (option_map due_of o) ≡ option_map (λ r. r.hash) o
hash_of_due None = refl
hash_of_due (Some r) = refl

-- the payee has the least turn
pub payee_due : (rows : List MnRow) → option_map (λ d. d.hash) (least due_cmp (dues rows)) ≡ payee rows
payee_due rows =
    ap (option_map (λ (d : Due). d.hash)) (least_map due_cmp due_of (filter is_unbanned rows))
    ∙ hash_of_due (least turn_cmp (filter is_unbanned rows))

front_hashes : (n : ℕ) (rows : List MnRow) → map (λ d. d.hash) (take n (map due_of rows)) ≡ map (λ r. r.hash) (take n rows)
front_hashes zero rows = refl
front_hashes (suc n) [] = refl
front_hashes (suc n) (r ∷ rows) = ap (λ (l : List Hash256). r.hash ∷ l) (front_hashes n rows)

-- the first of the turns are those of the first rows
dues_in_order : (n : ℕ) (rows : List MnRow) → map (λ d. d.hash) (take n (ranked due_cmp (dues rows))) ≡ map (λ r. r.hash) (take n (pay_order rows))
dues_in_order n rows =
    ap (λ (l : List Due). map (λ (d : Due). d.hash) (take n l)) (ranked_map due_cmp due_of (filter is_unbanned rows))
    ∙ front_hashes n (pay_order rows)

first_hash : (rows : List MnRow) → option_map (λ r. r.hash) (front rows) ≡ option_map (λ r. r.hash) (slice_get rows 0)
first_hash [] = refl
first_hash (r ∷ rows) = refl

-- The payee is the first in the order of payment.
pub payee_in_order : (rows : List MnRow) → payee rows ≡ option_map (λ r. r.hash) (slice_get (pay_order rows) 0)
payee_in_order rows =
    ap (option_map (λ (r : MnRow). r.hash)) (least_is_front turn_cmp (filter is_unbanned rows)) ∙ first_hash (pay_order rows)

-- ---- a loop over rows that keeps the first turn

-- the row at a place, and what the loop has then
pub first_more : (first now : Option Due) (due next : Due) (rows : List MnRow) (i : ℕ) (d : MnRow) → i < length rows → (get_or rows i d).banned ≡ 0 → due ≡ due_of (get_or rows i d) → Some next ≡ lesser_of due_cmp first (Some due) → now ≡ Some next → lesser_of due_cmp now (least due_cmp (dues (drop (i + 1) rows))) ≡ lesser_of due_cmp first (least due_cmp (dues (drop i rows)))
first_more first now due next rows i d within unbanned is earlier so =
    ap (λ (o : Option Due). lesser_of due_cmp o (least due_cmp (dues (drop (i + 1) rows)))) (so ∙ earlier ∙ ap (λ (e : Due). lesser_of due_cmp first (Some e)) is)
    ∙ lesser_more due_cmp due_total first (due_of (get_or rows i d)) (least due_cmp (dues (drop (i + 1) rows)))
    ∙ ap (λ (l : List Due). lesser_of due_cmp first (least due_cmp l)) (sym here)
  where
    here : dues (drop i rows) ≡ due_of (get_or rows i d) ∷ dues (drop (i + 1) rows)
    here = ap dues (drop-cons rows i d within) ∙ rw (ap (λ n. n == 0) unbanned, add-one) refl

pub first_same : (first now : Option Due) (rows : List MnRow) (i : ℕ) (d : MnRow) → i < length rows → ((get_or rows i d).banned ≡ 0 → ⊥) → now ≡ first → lesser_of due_cmp now (least due_cmp (dues (drop (i + 1) rows))) ≡ lesser_of due_cmp first (least due_cmp (dues (drop i rows)))
first_same first now rows i d within banned so =
    ap (λ (o : Option Due). lesser_of due_cmp o (least due_cmp (dues (drop (i + 1) rows)))) so
    ∙ ap (λ (l : List Due). lesser_of due_cmp first (least due_cmp l)) (sym here)
  where
    differs : ((get_or rows i d).banned == 0) ≡ false
    differs = false_from_ne_true _ (λ h. banned (eqb-true _ _ h))

    here : dues (drop i rows) ≡ dues (drop (i + 1) rows)
    here = ap dues (drop-cons rows i d within) ∙ rw (differs, add-one) refl

-- ---- the forecast

abbrev other_than : Hash256 → Due → Bool
other_than hash d = not (same_hash d.hash hash)

abbrev one_if : Bool → ℕ
one_if b = cond b 1 0

abbrev turns_of : Hash256 → List Due → ℕ
turns_of hash = sum_by (λ d. one_if (same_hash d.hash hash))

dues_left : (hash : Hash256) (rows : List MnRow) → dues (drop_row hash rows) ≡ filter (other_than hash) (dues rows)
dues_left hash [] = refl
dues_left hash (r ∷ rows) = elim (cases_Bool (same_hash r.hash hash)) [
  | inl same ↦ elim (cases_Bool (is_unbanned r)) [
    | inl unbanned ↦ rw (same, unbanned) (rw same (dues_left hash rows))
    | inr banned ↦ rw (same, banned) (dues_left hash rows)
  ]
  | inr differs ↦ elim (cases_Bool (is_unbanned r)) [
    | inl unbanned ↦ rw (differs, unbanned) (rw differs (ap (λ (l : List Due). due_of r ∷ l) (dues_left hash rows)))
    | inr banned ↦ rw (differs, banned) (dues_left hash rows)
  ]
]

none_above : (hash : Hash256) (rows : List MnRow) → IsAbove hash_cmp (λ r. r.hash) hash rows → turns_of hash (dues rows) ≡ 0
none_above hash [] above = refl
none_above hash (r ∷ rows) above = elim (cases_Bool (is_unbanned r)) [
  | inl unbanned ↦ rw unbanned (
      sum_by-cons (λ (d : Due). one_if (same_hash d.hash hash)) (due_of r) (dues rows)
      ∙ ap (λ b. one_if b + turns_of hash (dues rows)) (differs_above hash_cmp (λ (q : MnRow). q.hash) has_hash row_key hash r above.0)
      ∙ zero-add (turns_of hash (dues rows)) ∙ none_above hash rows above.1)
  | inr banned ↦ rw banned (none_above hash rows above.1)
]

-- each hash has one turn at most
one_turn : (hash : Hash256) (rows : List MnRow) → IsAscending rows → turns_of hash (dues rows) ≤ 1
one_turn hash [] ascending = omega arith
one_turn hash (r ∷ rows) ascending = elim (cases_Bool (is_unbanned r)) [
  | inl unbanned ↦ rw unbanned (here (one_turn hash rows ascending.1) (cases_Bool (same_hash r.hash hash)))
  | inr banned ↦ rw banned (one_turn hash rows ascending.1)
]
  where
    counted : turns_of hash (due_of r ∷ dues rows) ≡ one_if (same_hash r.hash hash) + turns_of hash (dues rows)
    counted = sum_by-cons (λ (d : Due). one_if (same_hash d.hash hash)) (due_of r) (dues rows)

    here : turns_of hash (dues rows) ≤ 1 → (same_hash r.hash hash ≡ true) ⊎ (same_hash r.hash hash ≡ false) → turns_of hash (due_of r ∷ dues rows) ≤ 1
    here rest (inl same) =
        let zero_left : turns_of hash (dues rows) ≡ 0 = ap (λ (h : Hash256). turns_of h (dues rows)) (sym (same_hash-is r.hash hash same)) ∙ none_above r.hash rows ascending.0 in
        let one : one_if (same_hash r.hash hash) ≡ 1 = ap one_if same in
        omega (arith, counted, zero_left, one)
    here rest (inr differs) =
        let none : one_if (same_hash r.hash hash) ≡ 0 = ap one_if differs in
        omega (arith, counted, none, rest)

all_kept : (hash : Hash256) (ds : List Due) → turns_of hash ds ≡ 0 → filter (other_than hash) ds ≡ ds
all_kept hash [] none = refl
all_kept hash (d ∷ ds) none = elim (cases_Bool (same_hash d.hash hash)) [
  | inl same ↦
      let one : one_if (same_hash d.hash hash) ≡ 1 = ap one_if same in
      absurd (omega (arith, none, one, sum_by-cons (λ (e : Due). one_if (same_hash e.hash hash)) d ds))
  | inr differs ↦
      let zero_here : one_if (same_hash d.hash hash) ≡ 0 = ap one_if differs in
      rw differs (ap (λ (l : List Due). d ∷ l) (all_kept hash ds (omega (arith, none, zero_here, sum_by-cons (λ (e : Due). one_if (same_hash e.hash hash)) d ds))))
]

-- The forecast is the front of the turns in their order.
pub forecast_dues : (n : ℕ) (rows : List MnRow) → IsAscending rows → forecast n rows ≡ map (λ d. d.hash) (take n (ranked due_cmp (dues rows)))
forecast_dues zero rows ascending = refl
forecast_dues (suc n) rows ascending =
    ap (λ (o : Option Hash256). and_then o (λ hash. forecast n (drop_row hash rows))) (sym (payee_due rows) ∙ ap (option_map (λ (d : Due). d.hash)) (least_is_front due_cmp (dues rows)))
    ∙ go (λ hash. forecast_dues n (drop_row hash rows) (IsAscending-filter (λ r. not (has_hash hash r)) rows ascending)) (ranked due_cmp (dues rows)) refl
  where
    go : ((hash : Hash256) → forecast n (drop_row hash rows) ≡ map (λ d. d.hash) (take n (ranked due_cmp (dues (drop_row hash rows))))) → (turns : List Due) → ranked due_cmp (dues rows) ≡ turns → and_then (option_map (λ d. d.hash) (front turns)) (λ hash. forecast n (drop_row hash rows)) ≡ map (λ d. d.hash) (take (suc n) turns)
    go rest [] is = refl
    go rest (d ∷ ds) is =
        ap (λ (l : List Hash256). d.hash ∷ l)
        (rest d.hash ∙ ap (λ (l : List Due). map (λ (e : Due). e.hash) (take n l)) left)
      where
        itself : same_hash d.hash d.hash ≡ true
        itself = same_hash-from d.hash d.hash refl

        none : turns_of d.hash ds ≡ 0
        none =
            let all : turns_of d.hash (d ∷ ds) ≡ turns_of d.hash (dues rows) = ap (turns_of d.hash) (sym is) ∙ sum_ranked due_cmp (λ (e : Due). one_if (same_hash e.hash d.hash)) (dues rows) in
            let one : one_if (same_hash d.hash d.hash) ≡ 1 = ap one_if itself in
            omega (arith, all, one, one_turn d.hash rows ascending, sum_by-cons (λ (e : Due). one_if (same_hash e.hash d.hash)) d ds)

        left : ranked due_cmp (dues (drop_row d.hash rows)) ≡ ds
        left =
            ap (ranked due_cmp) (dues_left d.hash rows)
            ∙ sym (ranked_kept due_cmp due_total due_exact (other_than d.hash) (dues rows))
            ∙ ap (filter (other_than d.hash)) is
            ∙ (rw itself (all_kept d.hash ds none))

-- The forecast is the front of the order of payment.
pub forecast_sorted : (n : ℕ) (rows : List MnRow) → IsAscending rows → forecast n rows ≡ map (λ r. r.hash) (take n (pay_order rows))
forecast_sorted n rows ascending = forecast_dues n rows ascending ∙ dues_in_order n rows

-- No turn is before the payee's.
pub payee_first : (rows : List MnRow) (hash : Hash256) → payee rows ≡ Some hash → IsFirst rows hash
payee_first rows hash is = go (least turn_cmp (filter is_unbanned rows)) refl
  where
    go : (o : Option MnRow) → least turn_cmp (filter is_unbanned rows) ≡ o → IsFirst rows hash
    go None none = let no : None ≡ Some hash = ap (option_map (λ (r : MnRow). r.hash)) (sym none) ∙ is in absurd cc
    go (Some row) some =
        let here : Some row.hash ≡ Some hash = ap (option_map (λ (r : MnRow). r.hash)) (sym some) ∙ is in
        let same : row.hash ≡ hash = cc in
        record { row = row; is = same; least = some; first = least_below_none turn_cmp turn_total (filter is_unbanned rows) row some }

-- ---- stored rows, as they are seen at a height

dues_plain : (h : ℕ) (rows : List MnRow) → dues (plain_rows h rows) ≡ dues rows
dues_plain h [] = refl
dues_plain h (r ∷ rows) =
    elim (is_unbanned r) as (λ b. map due_of (cond b (plain h r ∷ filter is_unbanned (plain_rows h rows)) (filter is_unbanned (plain_rows h rows))) ≡ map due_of (cond b (r ∷ filter is_unbanned rows) (filter is_unbanned rows))) [
      | true ↦ ap (λ (l : List Due). due_of r ∷ l) (dues_plain h rows)
      | false ↦ dues_plain h rows
    ]

pub payee_plain : (h : ℕ) (rows : List MnRow) → payee (plain_rows h rows) ≡ payee rows
payee_plain h rows =
    sym (payee_due (plain_rows h rows))
    ∙ ap (λ (l : List Due). option_map (λ (d : Due). d.hash) (least due_cmp l)) (dues_plain h rows)
    ∙ payee_due rows

pub forecast_plain : (h n : ℕ) (rows : List MnRow) → IsAscending rows → forecast n (plain_rows h rows) ≡ forecast n rows
forecast_plain h n rows ascending =
    forecast_dues n (plain_rows h rows) (IsAscending-plain h rows ascending)
    ∙ ap (λ (l : List Due). map (λ (d : Due). d.hash) (take n (ranked due_cmp l))) (dues_plain h rows)
    ∙ sym (forecast_dues n rows ascending)
