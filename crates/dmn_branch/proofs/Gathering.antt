-- The commitments that a branch takes from what a snapshot holds give the active quorums of each height.
use Rattle.std.proofs.Common.{◌≡◌, ℕ, zero, suc, ◌+◌, ◌-◌, ◌<◌, ◌≤◌, Bool, true, false, cond, List, [], ◌∷◌, ◌++◌, length, drop, Some, refl, sym, ap, ◌∙◌, subst, arith}
use Rattle.std.specs.Prelude.{◌==◌, ◌&&◌, filter, nat_le, slice_get}
use Rattle.std.specs.List.{AllByRecursion, flat_map}
use Rattle.std.proofs.Math.Bool.{and-false}
use Rattle.std.proofs.lemmas.Bool.{eq-eqb, eqb-true, lt-leb}
use Rattle.std.proofs.lemmas.List.Elements.{filter-append}
use Rattle.dmn_block.specs.State.{State}
use Rattle.dmn_held.specs.declared.data.HeightData.{HeightData}
use Rattle.dmn_held.specs.declared.data.SnapshotData.{SnapshotData}
use Rattle.dmn_payloads.specs.declared.commitment.Commitment.{Commitment}
use Rattle.dmn_payloads.specs.declared.mined.MinedAt.{MinedAt}
use Rattle.dmn_quorums.specs.Duty.{active_at, all_active_at, is_of, last, mined_at, types_of}
use Rattle.dmn_rows.specs.declared.profile.Profile.{Profile}
use Rattle.dmn_rows.specs.declared.profile.QuorumParams.{QuorumParams}
use Rattle.dmn_rows.specs.declared.start.StartRecord.{StartRecord}
use Rattle.dmn_rows.specs.Profile.{small_profile, main_profile}
use Rattle.dmn_branch.specs.Holds.{AllGive, Reading, lowest, next_reading, readings, readings_behind}
use Rattle.dmn_branch.specs.Stands.{GivesActive, KeepsActive, MinedFrom}
use Rattle.dmn_branch.specs.Step.{profile_of}
use Rattle.dmn_branch.specs.Taking.{mined_behind, mined_in}
use Rattle.dmn_branch.proofs.Active.{MinedTo, active_more, from_append, from_filter, from_lower, is_kind, last_more, mined_from, mined_to, of_all, to_filter, to_higher}
use Rattle.dmn_branch.proofs.Every.{every_append, every_at, every_drop, every_then}
use Rattle.dmn_branch.proofs.History.{StatesFrom}

pub append_none : {X : Type 0} (xs : List X) → xs ++ [] ≡ xs
append_none [] = refl
append_none (x ∷ xs) = ap (λ (l : List _). x ∷ l) (append_none xs)

append_more : {X : Type 0} (xs ys zs : List X) → xs ++ (ys ++ zs) ≡ (xs ++ ys) ++ zs
append_more [] ys zs = refl
append_more (x ∷ xs) ys zs = ap (λ (l : List _). x ∷ l) (append_more xs ys zs)

every_from : {X : Type 0} (P : X → Type 0) (xs : List X) → ((place : ℕ) (x : X) → slice_get xs place ≡ Some x → P x) → AllByRecursion P xs
every_from P [] each = tt
every_from P (x ∷ xs) each = (each 0 x refl, every_from P xs (λ place y is. each (suc place) y is))

-- ---- commitments above a height

abbrev MinedAbove : ℕ → List MinedAt → Type 0
MinedAbove height = AllByRecursion (λ (m : MinedAt). height < m.height)

none_of : (params : QuorumParams) (height : ℕ) (mined : List MinedAt) → MinedAbove height mined → filter (is_of params height) mined ≡ []
none_of params height [] all = refl
none_of params height (m ∷ mined) all =
    let above : nat_le m.height height ≡ false = lt-leb m.height height all.0 in
    let other : is_of params height m ≡ false = ap (λ b. is_kind params m && b) above ∙ and-false (is_kind params m) in
    ap (λ b. cond b (m ∷ filter (is_of params height) mined) (filter (is_of params height) mined)) other ∙ none_of params height mined all.1

mined_above : (height : ℕ) (commitments : List Commitment) → MinedAbove height (mined_at (suc height) commitments)
mined_above height [] = tt
mined_above height (c ∷ commitments) = (omega arith, mined_above height commitments)

behind_above : (height : ℕ) (heights : List HeightData) → MinedAbove height (mined_behind height heights)
behind_above height [] = tt
behind_above height (d ∷ heights) =
    every_append (λ (m : MinedAt). height < m.height) (mined_at (suc height) d.mined) (mined_behind (suc height) heights) (mined_above height d.mined)
    (every_then (λ (m : MinedAt) (lt : suc height < m.height). omega (arith, lt)) (mined_behind (suc height) heights) (behind_above (suc height) heights))

behind_from : (height : ℕ) (heights : List HeightData) → MinedFrom height (mined_behind height heights)
behind_from height [] = tt
behind_from height (d ∷ heights) =
    from_append height (suc height) (mined_at (suc height) d.mined) (mined_behind (suc height) heights) (omega arith)
    (from_lower height (suc height) (mined_at (suc height) d.mined) (omega arith) (mined_from (suc height) d.mined))
    (mined_to (suc height) d.mined) (behind_from (suc height) heights)

-- at a height the commitments above it tell nothing
first_active : (params : QuorumParams) (height : ℕ) (xs ys : List MinedAt) → MinedAbove height ys → active_at (xs ++ ys) params height ≡ active_at xs params height
first_active params height xs ys above =
    ap (last params.active) (filter-append (is_of params height) xs ys ∙ ap (λ (l : List MinedAt). filter (is_of params height) xs ++ l) (none_of params height ys above) ∙ append_none (filter (is_of params height) xs))

-- ---- the quorums of one type among those of all

kind_active : (q : QuorumParams) (height : ℕ) (mined : List MinedAt) → AllByRecursion (λ (m : MinedAt). m.commitment.kind ≡ q.kind) (filter (is_of q height) mined)
kind_active q height [] = tt
kind_active q height (m ∷ mined) = go (is_kind q m) (nat_le m.height height) refl refl (kind_active q height mined)
  where
    go : (k l : Bool) → is_kind q m ≡ k → nat_le m.height height ≡ l → AllByRecursion (λ (m : MinedAt). m.commitment.kind ≡ q.kind) (filter (is_of q height) mined) → AllByRecursion (λ (m : MinedAt). m.commitment.kind ≡ q.kind) (filter (is_of q height) (m ∷ mined))
    go true true a b rest = rw (a, b) (eqb-true m.commitment.kind q.kind a, rest)
    go true false a b rest = rw (a, b) rest
    go false l a b rest = rw a rest

kinds_last : (q : QuorumParams) (height : ℕ) (mined : List MinedAt) → AllByRecursion (λ (m : MinedAt). m.commitment.kind ≡ q.kind) (active_at mined q height)
kinds_last q height mined = every_drop (λ (m : MinedAt). m.commitment.kind ≡ q.kind) (length (filter (is_of q height) mined) - q.active) (filter (is_of q height) mined) (kind_active q height mined)

filter_all : (p : QuorumParams) (xs : List MinedAt) → AllByRecursion (λ (m : MinedAt). m.commitment.kind ≡ p.kind) xs → filter (is_kind p) xs ≡ xs
filter_all p [] all = refl
filter_all p (m ∷ xs) all =
    ap (λ (b : Bool). cond b (m ∷ filter (is_kind p) xs) (filter (is_kind p) xs)) (eq-eqb m.commitment.kind p.kind all.0) ∙ ap (λ (l : List MinedAt). m ∷ l) (filter_all p xs all.1)

filter_none : (p q : QuorumParams) (xs : List MinedAt) → (q.kind == p.kind) ≡ false → AllByRecursion (λ (m : MinedAt). m.commitment.kind ≡ q.kind) xs → filter (is_kind p) xs ≡ []
filter_none p q [] other all = refl
filter_none p q (m ∷ xs) other all =
    ap (λ (b : Bool). cond b (m ∷ filter (is_kind p) xs) (filter (is_kind p) xs)) (ap (λ (n : ℕ). n == p.kind) all.0 ∙ other) ∙ filter_none p q xs other all.1

abbrev flat : List MinedAt → ℕ → List QuorumParams → List MinedAt
flat mined low types = flat_map (λ params. active_at mined params low) types

skip : (mined : List MinedAt) (low : ℕ) (p q : QuorumParams) (types : List QuorumParams) → (q.kind == p.kind) ≡ false → filter (is_kind p) (flat mined low (q ∷ types)) ≡ filter (is_kind p) (flat mined low types)
skip mined low p q types other =
    filter-append (is_kind p) (active_at mined q low) (flat mined low types)
    ∙ ap (λ (l : List MinedAt). l ++ filter (is_kind p) (flat mined low types)) (filter_none p q (active_at mined q low) other (kinds_last q low mined))

skip_all : (mined : List MinedAt) (low : ℕ) (p : QuorumParams) (types : List QuorumParams) → AllByRecursion (λ (q : QuorumParams). (q.kind == p.kind) ≡ false) types → filter (is_kind p) (flat mined low types) ≡ []
skip_all mined low p [] all = refl
skip_all mined low p (q ∷ types) all = skip mined low p q types all.0 ∙ skip_all mined low p types all.1

pick : (mined : List MinedAt) (low : ℕ) (p : QuorumParams) (types : List QuorumParams) → AllByRecursion (λ (q : QuorumParams). (q.kind == p.kind) ≡ false) types → filter (is_kind p) (flat mined low (p ∷ types)) ≡ active_at mined p low
pick mined low p types all =
    filter-append (is_kind p) (active_at mined p low) (flat mined low types)
    ∙ ap (λ (l : List MinedAt). filter (is_kind p) (active_at mined p low) ++ l) (skip_all mined low p types all)
    ∙ append_none (filter (is_kind p) (active_at mined p low))
    ∙ filter_all p (active_at mined p low) (kinds_last p low mined)

-- of each type of a profile these are its active quorums
abbrev pub PicksEach : Profile → List MinedAt → ℕ → Type 0
PicksEach profile mined low = AllByRecursion (λ (p : QuorumParams). filter (is_kind p) (all_active_at mined profile.quorums low) ≡ active_at mined p low) (types_of profile.quorums)

-- one type, or three with distinct kinds
abbrev HasFewKinds : List QuorumParams → Type 0
HasFewKinds [] = ⊥
HasFewKinds (p ∷ []) = Unit {0}
HasFewKinds (p ∷ q ∷ []) = ⊥
HasFewKinds (p ∷ q ∷ r ∷ []) = ((q.kind == p.kind) ≡ false) × ((r.kind == p.kind) ≡ false) × ((p.kind == q.kind) ≡ false) × ((r.kind == q.kind) ≡ false) × ((p.kind == r.kind) ≡ false) × ((q.kind == r.kind) ≡ false)
HasFewKinds (p ∷ q ∷ r ∷ s ∷ types) = ⊥

picks_of : (mined : List MinedAt) (low : ℕ) (types : List QuorumParams) → HasFewKinds types → AllByRecursion (λ (x : QuorumParams). filter (is_kind x) (flat mined low types) ≡ active_at mined x low) types
picks_of mined low [] few = absurd few
picks_of mined low (p ∷ []) few = (pick mined low p [] tt, tt)
picks_of mined low (p ∷ q ∷ []) few = absurd few
picks_of mined low (p ∷ q ∷ r ∷ []) (qp, rp, pq, rq, pr, qr) = (
  pick mined low p (q ∷ r ∷ []) (qp, (rp, tt)),
  (
    skip mined low q p (q ∷ r ∷ []) pq ∙ pick mined low q (r ∷ []) (rq, tt),
    (skip mined low r p (q ∷ r ∷ []) pr ∙ skip mined low r q (r ∷ []) qr ∙ pick mined low r [] tt, tt),
  ),
)
picks_of mined low (p ∷ q ∷ r ∷ s ∷ types) few = absurd few

picks_by : (small : Bool) (mined : List MinedAt) (low : ℕ) → PicksEach (cond small small_profile main_profile) mined low
picks_by true mined low = picks_of mined low (types_of small_profile.quorums) tt
picks_by false mined low = picks_of mined low (types_of main_profile.quorums) (refl, refl, refl, refl, refl, refl)

pub picks_each : (start : StartRecord) (mined : List MinedAt) (low : ℕ) → PicksEach (profile_of start) mined low
picks_each start = picks_by (start.profile == 1)

-- ---- height by height

each_behind : (profile : Profile) (params : QuorumParams) (place : ℕ) → slice_get (types_of profile.quorums) place ≡ Some params → (height : ℕ) (kept : List MinedAt) (before : Reading) (heights : List HeightData) (states : List State)
    → MinedTo height kept → MinedTo height before.mined → active_at kept params height ≡ active_at before.mined params height → AllGive profile (readings_behind height before heights) states → StatesFrom (suc height) states
    → AllByRecursion (λ (s : State). active_at (kept ++ mined_behind height heights) params s.height ≡ active_at s.mined params s.height) states
each_behind profile params place is height kept before [] [] to full same all from = tt
each_behind profile params place is height kept before [] (s ∷ states) to full same all from = absurd all
each_behind profile params place is height kept before (d ∷ heights) [] to full same all from = absurd all
each_behind profile params place is height kept before (d ∷ heights) (s ∷ states) to full same all from =
    let new = mined_at (suc height) d.mined in
    let next = next_reading (suc height) before d in
    let behind = mined_behind (suc height) heights in
    let up : height + 1 ≡ suc height = omega arith in
    let alike : active_at (kept ++ new) params (suc height) ≡ active_at (before.mined ++ new) params (suc height) =
    subst (λ (n : ℕ). active_at (kept ++ mined_at n d.mined) params n ≡ active_at (before.mined ++ mined_at n d.mined) params n) up (active_more params height kept before.mined d.mined to full same) in
    let more = append_more kept new behind in
    let grown : (list : List MinedAt) → MinedTo height list → MinedTo (suc height) (list ++ new) = λ list all. every_append (λ (m : MinedAt). m.height ≤ suc height) list new (to_higher height (suc height) list (omega arith) all) (mined_to (suc height) d.mined) in
    let gives : active_at (before.mined ++ new) params (suc height) ≡ active_at s.mined params (suc height) =
    subst (λ (n : ℕ). active_at (before.mined ++ new) params n ≡ active_at s.mined params n) from.0.height
    (every_at (λ (p : QuorumParams). active_at (before.mined ++ new) p s.height ≡ active_at s.mined p s.height) (types_of profile.quorums) place params all.0.quorums is) in
    let here : active_at ((kept ++ new) ++ behind) params (suc height) ≡ active_at s.mined params (suc height) = first_active params (suc height) (kept ++ new) behind (behind_above (suc height) heights) ∙ alike ∙ gives in
    let rest = each_behind profile params place is (suc height) (kept ++ new) next heights states (grown kept to) (grown before.mined full) alike all.1 from.1 in
    subst (λ (l : List MinedAt). AllByRecursion (λ (s : State). active_at l params s.height ≡ active_at s.mined params s.height) (s ∷ states)) (sym more)
    (subst (λ (n : ℕ). active_at ((kept ++ new) ++ behind) params n ≡ active_at s.mined params n) (sym from.0.height) here, rest)

-- ---- all of them

pub last_twice : {X : Type 0} (n : ℕ) (xs : List X) → last n (last n xs) ≡ last n xs
last_twice n xs = ap (last n) (sym (append_none (last n xs))) ∙ sym (last_more n xs []) ∙ ap (last n) (append_none xs)

from_drop : (n least : ℕ) (mined : List MinedAt) → MinedFrom least mined → MinedFrom least (drop n mined)
from_drop zero least mined from = from
from_drop (suc n) least [] from = tt
from_drop (suc n) least (m ∷ mined) from = from_lower least m.height (drop n mined) from.0 (from_drop n m.height mined from.1)

to_active : (p : QuorumParams) (low : ℕ) (mined : List MinedAt) → MinedTo low mined → MinedTo low (active_at mined p low)
to_active p low mined to = every_drop (λ (m : MinedAt). m.height ≤ low) (length (filter (is_of p low) mined) - p.active) (filter (is_of p low) mined) (to_filter (is_of p low) low mined to)

to_flat : (mined : List MinedAt) (low : ℕ) (types : List QuorumParams) → MinedTo low mined → MinedTo low (flat mined low types)
to_flat mined low [] to = tt
to_flat mined low (p ∷ types) to = every_append (λ (m : MinedAt). m.height ≤ low) (active_at mined p low) (flat mined low types) (to_active p low mined to) (to_flat mined low types to)

pub quorums_given : (profile : Profile) (held : SnapshotData) (states : List State) (tip : ℕ) → held.low ≤ tip → PicksEach profile held.active held.low → AllGive profile (readings held) states → StatesFrom held.low states → MinedTo held.low held.active → KeepsActive profile (mined_in profile held) tip states
quorums_given profile held [] tip le picks all from to = absurd all
quorums_given profile held (s ∷ states) tip le picks all from to = every_from (GivesActive (mined_in profile held) tip (s ∷ states)) (types_of profile.quorums) each
  where
    kept : List MinedAt
    kept = all_active_at held.active profile.quorums held.low

    behind : List MinedAt
    behind = mined_behind held.low held.heights

    kept_to : MinedTo held.low kept
    kept_to = to_flat held.active held.low (types_of profile.quorums) to

    each : (place : ℕ) (p : QuorumParams) → slice_get (types_of profile.quorums) place ≡ Some p → GivesActive (mined_in profile held) tip (s ∷ states) p
    each place p is =
        let own = every_at (λ (p : QuorumParams). filter (is_kind p) kept ≡ active_at held.active p held.low) (types_of profile.quorums) place p picks is in
        let same : active_at kept p held.low ≡ active_at held.active p held.low = ap (last p.active) (of_all p held.low kept kept_to ∙ own) ∙ last_twice p.active (filter (is_of p held.low) held.active) in
        let told : active_at held.active p held.low ≡ active_at s.mined p held.low =
        subst (λ (n : ℕ). active_at held.active p n ≡ active_at s.mined p n) from.0.height (every_at (λ (p : QuorumParams). active_at held.active p s.height ≡ active_at s.mined p s.height) (types_of profile.quorums) place p all.0.quorums is) in
        let ordered : MinedFrom 0 (active_at held.active p held.low) =
        subst (MinedFrom 0) (sym told) (from_drop (length (filter (is_of p held.low) s.mined) - p.active) 0 (filter (is_of p held.low) s.mined) (from_filter (is_of p held.low) 0 s.mined from.0.from)) in
        let front : filter (is_of p tip) kept ≡ active_at held.active p held.low = of_all p tip kept (to_higher held.low tip kept le kept_to) ∙ own in
        let parts : filter (is_of p tip) (kept ++ behind) ≡ active_at held.active p held.low ++ filter (is_of p tip) behind = filter-append (is_of p tip) kept behind ∙ ap (λ (l : List MinedAt). l ++ filter (is_of p tip) behind) front in
        let here : active_at (kept ++ behind) p held.low ≡ active_at s.mined p held.low = first_active p held.low kept behind (behind_above held.low held.heights) ∙ same ∙ told in
        record {
          ordered = subst (MinedFrom 0) (sym parts) (from_append 0 held.low (active_at held.active p held.low) (filter (is_of p tip) behind) (omega arith) ordered (to_active p held.low held.active to) (from_filter (is_of p tip) held.low behind (behind_from held.low held.heights)));
          active = (subst (λ (n : ℕ). active_at (kept ++ behind) p n ≡ active_at s.mined p n) (sym from.0.height) here, each_behind profile p place is held.low kept (lowest held) held.heights states kept_to to same all.1 from.1);
        }
