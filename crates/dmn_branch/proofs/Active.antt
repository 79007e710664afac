-- Active quorums, by commitments of which older ones may be missing.
use Rattle.std.proofs.Common.{◌≡◌, ℕ, suc, ◌+◌, ◌-◌, ◌*◌, ◌/◌, ◌%◌, ◌<◌, ◌≤◌, Bool, true, false, cond, List, [], ◌∷◌, ◌++◌, length, length-append, drop, drop-drop, refl, sym, ap, ◌∙◌, subst, arith, inl, inr, ◌⊎◌}
use Rattle.std.specs.Prelude.{◌==◌, ◌&&◌, ◌||◌, filter, nat_le}
use Rattle.std.specs.List.{AllByRecursion, list_any}
use Rattle.std.proofs.Math.Bool.{and-false, and-true}
use Rattle.std.proofs.Math.Nat.{mul-le-mul_right}
use Rattle.std.proofs.lemmas.Bool.{cases_Bool, eq-eqb, eqb-true, le-leb, leb-true}
use Rattle.std.proofs.lemmas.List.{drop-append-le, length-drop}
use Rattle.std.proofs.lemmas.Nat.{div-add-mod', le-div}
use Rattle.std.proofs.lemmas.List.Elements.{filter-append}
use Rattle.dmn_block.specs.State.{State}
use Rattle.dmn_payloads.specs.declared.commitment.Commitment.{Commitment}
use Rattle.dmn_payloads.specs.declared.mined.MinedAt.{MinedAt}
use Rattle.dmn_quorums.specs.Duty.{active_at, base_of, is_done, is_for, is_of, last, mined_at, undone}
use Rattle.dmn_rows.specs.declared.profile.QuorumParams.{QuorumParams}
use Rattle.dmn_branch.specs.Parts.{AddsMined}
use Rattle.dmn_branch.specs.Stands.{GivesActive, MinedFrom}
use Rattle.dmn_branch.proofs.Every.{every_append, every_both, every_drop, every_front, every_then}
use Rattle.dmn_branch.proofs.Mining.{undone_lower}

-- ---- heights

-- none was mined above a height
abbrev pub MinedTo : ℕ → List MinedAt → Type 0
MinedTo height = AllByRecursion (λ (m : MinedAt). m.height ≤ height)

pub to_higher : (low high : ℕ) (mined : List MinedAt) → low ≤ high → MinedTo low mined → MinedTo high mined
to_higher low high mined le = every_then (λ (m : MinedAt) (to : m.height ≤ low). omega (arith, le, to)) mined

pub undone_to : (height : ℕ) (mined : List MinedAt) → MinedTo height (undone height mined)
undone_to height [] = tt
undone_to height (m ∷ mined) =
    elim (cases_Bool (nat_le m.height height)) [
      | inl low ↦ rw low (leb-true m.height height low, undone_to height mined)
      | inr above ↦ rw above (undone_to height mined)
    ]

pub settled_to : (height : ℕ) (mined : List MinedAt) → undone height mined ≡ mined → MinedTo height mined
settled_to height mined settled = subst (MinedTo height) settled (undone_to height mined)

pub from_lower : (low high : ℕ) (mined : List MinedAt) → low ≤ high → MinedFrom high mined → MinedFrom low mined
from_lower low high [] le from = tt
from_lower low high (m ∷ mined) le from = (omega (arith, le, from.0), from.1)

pub from_filter : (p : MinedAt → Bool) (least : ℕ) (mined : List MinedAt) → MinedFrom least mined → MinedFrom least (filter p mined)
from_filter p least [] from = tt
from_filter p least (m ∷ mined) from =
    elim (p m) as (λ b. MinedFrom least (cond b (m ∷ filter p mined) (filter p mined))) [
      | true ↦ (from.0, from_filter p m.height mined from.1)
      | false ↦ from_lower least m.height (filter p mined) from.0 (from_filter p m.height mined from.1)
    ]

pub from_append : (least height : ℕ) (xs ys : List MinedAt) → least ≤ height → MinedFrom least xs → MinedTo height xs → MinedFrom height ys → MinedFrom least (xs ++ ys)
from_append least height [] ys le from to more = from_lower least height ys le more
from_append least height (m ∷ xs) ys le from to more = (from.0, from_append m.height height xs ys to.0 from.1 to.1 more)

pub mined_from : (height : ℕ) (commitments : List Commitment) → MinedFrom height (mined_at height commitments)
mined_from height [] = tt
mined_from height (c ∷ commitments) = (omega arith, mined_from height commitments)

pub mined_to : (height : ℕ) (commitments : List Commitment) → MinedTo height (mined_at height commitments)
mined_to height [] = tt
mined_to height (c ∷ commitments) = (omega arith, mined_to height commitments)

-- ---- those of a type

abbrev pub is_kind : QuorumParams → MinedAt → Bool
is_kind params m = m.commitment.kind == params.kind

-- where none was mined above a height, those up to the height are all
pub of_all : (params : QuorumParams) (height : ℕ) (mined : List MinedAt) → MinedTo height mined → filter (is_of params height) mined ≡ filter (is_kind params) mined
of_all params height [] to = refl
of_all params height (m ∷ mined) to =
    let le : nat_le m.height height ≡ true = le-leb m.height height to.0 in
    let same : is_of params height m ≡ is_kind params m = ap (λ b. is_kind params m && b) le ∙ and-true (is_kind params m) in
    ap (λ b. cond b (m ∷ filter (is_of params height) mined) (filter (is_of params height) mined)) same
    ∙ ap (λ (l : List MinedAt). cond (is_kind params m) (m ∷ l) l) (of_all params height mined to.1)

of_higher : (params : QuorumParams) (low high : ℕ) (mined : List MinedAt) → low ≤ high → MinedTo low mined → filter (is_of params high) mined ≡ filter (is_of params low) mined
of_higher params low high mined le to = of_all params high mined (to_higher low high mined le to) ∙ sym (of_all params low mined to)

pub to_filter : (p : MinedAt → Bool) (height : ℕ) (mined : List MinedAt) → MinedTo height mined → MinedTo height (filter p mined)
to_filter p height [] to = tt
to_filter p height (m ∷ mined) to =
    elim (p m) as (λ b. MinedTo height (cond b (m ∷ filter p mined) (filter p mined))) [
      | true ↦ (to.0, to_filter p height mined to.1)
      | false ↦ to_filter p height mined to.1
    ]

-- of the commitments up to a height the active ones are those of all
pub filter_undone : (params : QuorumParams) (height : ℕ) (mined : List MinedAt) → filter (is_of params height) (undone height mined) ≡ filter (is_of params height) mined
filter_undone params height [] = refl
filter_undone params height (m ∷ mined) =
    let rest = filter_undone params height mined in
    let left = λ (b : Bool). filter (is_of params height) (cond b (m ∷ undone height mined) (undone height mined)) in
    elim (cases_Bool (nat_le m.height height)) [
      | inl below ↦ ap left below ∙ ap (λ (l : List MinedAt). cond (is_of params height m) (m ∷ l) l) rest
      | inr above ↦
          let other : is_of params height m ≡ false = ap (λ b. is_kind params m && b) above ∙ and-false (is_kind params m) in
          ap left above ∙ rest ∙ ap (λ (b : Bool). cond b (m ∷ filter (is_of params height) mined) (filter (is_of params height) mined)) (sym other)
    ]

-- lists that agree up to a height agree on a type up to each height below it
of_alike : (params : QuorumParams) (low high : ℕ) (old new : List MinedAt) → low ≤ high → undone high new ≡ undone high old → filter (is_of params low) new ≡ filter (is_of params low) old
of_alike params low high old new le same =
    sym (filter_undone params low new)
    ∙ ap (filter (is_of params low)) (sym (undone_lower low high new le) ∙ ap (undone low) same ∙ undone_lower low high old le)
    ∙ filter_undone params low old

-- those of a type up to a height, of those up to another one at or above it
of_lower : (params : QuorumParams) (low high : ℕ) (mined : List MinedAt) → low ≤ high → filter (λ m. nat_le m.height low) (filter (is_of params high) mined) ≡ filter (is_of params low) mined
of_lower params low high [] le = refl
of_lower params low high (m ∷ mined) le = go (of_lower params low high mined le) (is_kind params m) (nat_le m.height high) (nat_le m.height low) refl refl refl
  where
    go : filter (λ m. nat_le m.height low) (filter (is_of params high) mined) ≡ filter (is_of params low) mined → (k h l : Bool) → is_kind params m ≡ k → nat_le m.height high ≡ h → nat_le m.height low ≡ l
        → filter (λ m. nat_le m.height low) (filter (is_of params high) (m ∷ mined)) ≡ filter (is_of params low) (m ∷ mined)
    go rest false h l a b c = rw a rest
    go rest true false false a b c = rw (a, b, c) rest
    go rest true true false a b c = rw (a, b, c) rest
    go rest true true true a b c = rw (a, b, c) (ap (λ (xs : List MinedAt). m ∷ xs) rest)
    go rest true false true a b c = absurd (let high_too : nat_le m.height high ≡ true = le-leb m.height high (omega (arith, le, leb-true m.height low c)) in cc)

-- ---- the last ones

pub last_more : {X : Type 0} (n : ℕ) (xs ys : List X) → last n (xs ++ ys) ≡ last n (last n xs ++ ys)
last_more n xs ys =
    let k = length xs - n in
    let all = xs ++ ys in
    let long = length-append xs ys in
    let front : last n xs ++ ys ≡ drop k all = sym (drop-append-le k xs ys (omega arith)) in
    let count : length all - n ≡ k + (length (drop k all) - n) = omega (arith, long, length-drop k all) in
    ap (λ (m : ℕ). drop m all) count
    ∙ sym (drop-drop (length (drop k all) - n) k all)
    ∙ ap (last n) (sym front)

pub last_alike : {X : Type 0} (n : ℕ) (xs ys zs : List X) → last n xs ≡ last n ys → last n (xs ++ zs) ≡ last n (ys ++ zs)
last_alike n xs ys zs same = last_more n xs zs ∙ ap (λ (l : List _). last n (l ++ zs)) same ∙ sym (last_more n ys zs)

pub last_few : {X : Type 0} (n : ℕ) (xs : List X) → length xs ≤ n → last n xs ≡ xs
last_few n xs few =
    let none : length xs - n ≡ 0 = omega (arith, few) in
    ap (λ (k : ℕ). drop k xs) none

last_pass : {X : Type 0} (n : ℕ) (x : X) (xs : List X) → n ≤ length xs → last n (x ∷ xs) ≡ last n xs
last_pass n x xs le =
    let one : suc (length xs) - n ≡ suc (length xs - n) = omega (arith, le) in
    ap (λ (k : ℕ). drop k (x ∷ xs)) one

-- ---- whether the base has its commitment

-- bases ascend with heights
base_rises : (n a b : ℕ) → 0 < n → a ≤ b → a - a % n ≤ b - b % n
base_rises n a b some le =
    let one = div-add-mod' a n in
    let two = div-add-mod' b n in
    let up : a / n ≤ b / n = le-div (a / n) b n some (omega (arith, one, le)) in
    let more : a / n * n ≤ b / n * n = mul-le-mul_right n up in
    omega (arith, one, two, more)

base_between : (params : QuorumParams) (low height high : ℕ) → 0 < params.interval → low ≤ height → height ≤ high → base_of params low ≡ base_of params high → base_of params height ≡ base_of params high
base_between params low height high some one two same =
    omega (arith, base_rises params.interval low height some one, base_rises params.interval height high some two, same)

-- the base of this height is that of another one
abbrev is_base : QuorumParams → ℕ → MinedAt → Bool
is_base params height m = base_of params m.height == base_of params height

any_kind : (params : QuorumParams) (height : ℕ) (mined : List MinedAt) → list_any (is_for params height) mined ≡ list_any (is_base params height) (filter (is_kind params) mined)
any_kind params height [] = refl
any_kind params height (m ∷ mined) = go (any_kind params height mined) (is_kind params m) refl
  where
    go : list_any (is_for params height) mined ≡ list_any (is_base params height) (filter (is_kind params) mined) → (k : Bool) → is_kind params m ≡ k → list_any (is_for params height) (m ∷ mined) ≡ list_any (is_base params height) (filter (is_kind params) (m ∷ mined))
    go rest true e = rw e (ap (λ b. is_base params height m || b) rest)
    go rest false e = rw e rest

-- where the first one of some is for a base, so is the next one
first_base : (params : QuorumParams) (low height : ℕ) (mined : List MinedAt) → 0 < params.interval → MinedFrom low mined → MinedTo height mined → 0 < length mined → base_of params low ≡ base_of params (height + 1) → list_any (is_base params (height + 1)) mined ≡ true
first_base params low height [] some from to count same = absurd (omega (arith, count))
first_base params low height (m ∷ mined) some from to count same =
    let here : is_base params (height + 1) m ≡ true = eq-eqb _ _ (base_between params low m.height (height + 1) some from.0 (omega (arith, to.0)) same) in
    rw here refl

-- the last ones of a type tell whether the next height's base has its commitment
any_last : (params : QuorumParams) (n least height : ℕ) (mined : List MinedAt) → 0 < n → 0 < params.interval → MinedFrom least mined → MinedTo height mined → list_any (is_base params (height + 1)) (last n mined) ≡ list_any (is_base params (height + 1)) mined
any_last params n least height [] many some from to = ap (list_any (is_base params (height + 1))) (last_few n [] (omega arith))
any_last params n least height (m ∷ mined) many some from to = go (any_last params n m.height height mined many some from.1 to.1) (le_or n (length mined))
  where
    le_or : (a b : ℕ) → (a ≤ b) ⊎ (b < a)
    le_or a b = grind arith

    go : list_any (is_base params (height + 1)) (last n mined) ≡ list_any (is_base params (height + 1)) mined → (n ≤ length mined) ⊎ (length mined < n) → list_any (is_base params (height + 1)) (last n (m ∷ mined)) ≡ list_any (is_base params (height + 1)) (m ∷ mined)
    go rest (inr few) = ap (list_any (is_base params (height + 1))) (last_few n (m ∷ mined) (omega (arith, few)))
    go rest (inl le) =
        ap (list_any (is_base params (height + 1))) (last_pass n m mined le) ∙ rest
        ∙ elim (cases_Bool (is_base params (height + 1) m)) [
          | inl here ↦ rw here (first_base params m.height height mined some from.1 to.1 (omega (arith, many, le)) (eqb-true _ _ here))
          | inr other ↦ rw other refl
        ]

-- so do the active ones
done_active : (params : QuorumParams) (height : ℕ) (mined : List MinedAt) → 0 < params.active → 0 < params.interval → MinedFrom 0 (filter (is_of params height) mined) → MinedTo height mined → is_done params (height + 1) mined ≡ list_any (is_base params (height + 1)) (active_at mined params height)
done_active params height mined many some from to =
    any_kind params (height + 1) mined
    ∙ ap (list_any (is_base params (height + 1))) (sym (of_all params height mined to))
    ∙ sym (any_last params params.active 0 height (filter (is_of params height) mined) many some from (to_filter (is_of params height) height mined to))

pub same_done : (params : QuorumParams) (height : ℕ) (a b : List MinedAt) → 0 < params.active → 0 < params.interval → MinedFrom 0 (filter (is_of params height) a) → MinedTo height a → MinedFrom 0 (filter (is_of params height) b) → MinedTo height b
    → active_at a params height ≡ active_at b params height → is_done params (height + 1) a ≡ is_done params (height + 1) b
same_done params height a b many some from to from_b to_b same =
    done_active params height a many some from to ∙ ap (list_any (is_base params (height + 1))) same ∙ sym (done_active params height b many some from_b to_b)

-- ---- one block more

pub filter_more : (params : QuorumParams) (height : ℕ) (mined : List MinedAt) (commitments : List Commitment) → MinedTo height mined
    → filter (is_of params (height + 1)) (mined ++ mined_at (height + 1) commitments) ≡ filter (is_of params height) mined ++ filter (is_of params (height + 1)) (mined_at (height + 1) commitments)
filter_more params height mined commitments to =
    filter-append (is_of params (height + 1)) mined (mined_at (height + 1) commitments)
    ∙ ap (λ (l : List MinedAt). l ++ filter (is_of params (height + 1)) (mined_at (height + 1) commitments)) (of_higher params height (height + 1) mined (omega arith) to)

-- where the same commitments are added to lists with the same active quorums, these have the same ones again
pub active_more : (params : QuorumParams) (height : ℕ) (a b : List MinedAt) (commitments : List Commitment) → MinedTo height a → MinedTo height b → active_at a params height ≡ active_at b params height
    → active_at (a ++ mined_at (height + 1) commitments) params (height + 1) ≡ active_at (b ++ mined_at (height + 1) commitments) params (height + 1)
active_more params height a b commitments to_a to_b same =
    ap (last params.active) (filter_more params height a commitments to_a)
    ∙ last_alike params.active (filter (is_of params height) a) (filter (is_of params height) b) (filter (is_of params (height + 1)) (mined_at (height + 1) commitments)) same
    ∙ sym (ap (last params.active) (filter_more params height b commitments to_b))

ordered_more : (params : QuorumParams) (height : ℕ) (mined : List MinedAt) (commitments : List Commitment) → MinedTo height mined → MinedFrom 0 (filter (is_of params height) mined) → MinedFrom 0 (filter (is_of params (height + 1)) (mined ++ mined_at (height + 1) commitments))
ordered_more params height mined commitments to from =
    subst (MinedFrom 0) (sym (filter_more params height mined commitments to))
    (from_append 0 (height + 1) (filter (is_of params height) mined) _ (omega arith) from
    (to_higher height (height + 1) _ (omega arith) (to_filter (is_of params height) height mined to))
    (from_filter (is_of params (height + 1)) (height + 1) _ (mined_from (height + 1) commitments)))

-- ---- what is kept of a type

-- none of these states is above a height
abbrev pub StatesTo : ℕ → List State → Type 0
StatesTo height = AllByRecursion (λ (s : State). s.height ≤ height)

-- commitments that are the same up to the tip
pub gives_alike : (old new : List MinedAt) (tip : ℕ) (states : List State) (params : QuorumParams) → undone tip new ≡ undone tip old → StatesTo tip states → GivesActive old tip states params → GivesActive new tip states params
gives_alike old new tip states params same to gives = record {
  ordered = subst (MinedFrom 0) (sym (of_alike params tip tip old new (omega arith) same)) gives.ordered;
  active = every_both (λ (s : State) (le : s.height ≤ tip) (is : active_at old params s.height ≡ active_at s.mined params s.height). ap (last params.active) (of_alike params s.height tip old new le same) ∙ is) states to gives.active;
}

-- fewer states
pub gives_less : (mined : List MinedAt) (low tip : ℕ) (states more : List State) (params : QuorumParams) → low ≤ tip → GivesActive mined tip (states ++ more) params → GivesActive mined low states params
gives_less mined low tip states more params le gives = record {
  ordered = subst (MinedFrom 0) (of_lower params low tip mined le) (from_filter (λ m. nat_le m.height low) 0 (filter (is_of params tip) mined) gives.ordered);
  active = every_front (λ (s : State). active_at mined params s.height ≡ active_at s.mined params s.height) states more gives.active;
}

-- states from a later one on, with more behind them
pub gives_more : (mined : List MinedAt) (tip next n : ℕ) (states more : List State) (params : QuorumParams) → GivesActive mined tip states params → GivesActive mined next more params → GivesActive mined next (drop n (states ++ more)) params
gives_more mined tip next n states more params gives then = record {
  ordered = then.ordered;
  active = every_drop (λ (s : State). active_at mined params s.height ≡ active_at s.mined params s.height) n (states ++ more)
      (every_append (λ (s : State). active_at mined params s.height ≡ active_at s.mined params s.height) states more gives.active then.active);
}

-- the block's commitments, of one type
next_one : (params : QuorumParams) (state after : State) (old new : List MinedAt) → AddsMined state after old new → after.height ≡ state.height + 1 → MinedTo state.height old → MinedTo state.height state.mined → GivesActive old state.height (state ∷ []) params → GivesActive new after.height (after ∷ []) params
next_one params state after old new added up to to_state gives =
    let h = state.height in
    let a : new ≡ old ++ mined_at (h + 1) added.commitments = added.is ∙ ap (λ (n : ℕ). old ++ mined_at n added.commitments) up in
    let b : after.mined ≡ state.mined ++ mined_at (h + 1) added.commitments = added.mined ∙ ap (λ (n : ℕ). state.mined ++ mined_at n added.commitments) up in
    let same : active_at new params (h + 1) ≡ active_at after.mined params (h + 1) =
    ap (λ (l : List MinedAt). active_at l params (h + 1)) a
    ∙ active_more params h old state.mined added.commitments to to_state gives.active.0
    ∙ sym (ap (λ (l : List MinedAt). active_at l params (h + 1)) b) in
    record {
      ordered = subst (λ (n : ℕ). MinedFrom 0 (filter (is_of params n) new)) (sym up)
          (subst (λ (l : List MinedAt). MinedFrom 0 (filter (is_of params (h + 1)) l)) (sym a) (ordered_more params h old added.commitments to gives.ordered));
      active = (subst (λ (n : ℕ). active_at new params n ≡ active_at after.mined params n) (sym up) same, tt);
    }

pub gives_next : (types : List QuorumParams) (state after : State) (old new : List MinedAt) → AddsMined state after old new → after.height ≡ state.height + 1 → MinedTo state.height old → MinedTo state.height state.mined
    → AllByRecursion (GivesActive old state.height (state ∷ [])) types → AllByRecursion (GivesActive new after.height (after ∷ [])) types
gives_next types state after old new added up to to_state = every_then (λ (p : QuorumParams) (gives : GivesActive old state.height (state ∷ []) p). next_one p state after old new added up to to_state gives) types
