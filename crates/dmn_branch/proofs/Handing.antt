-- What a branch tells for a snapshot holds its machine.
use Rattle.std.proofs.Common.{◌≡◌, ℕ, zero, suc, ◌+◌, ◌-◌, ◌<◌, ◌≤◌, Bool, true, false, cond, List, [], ◌∷◌, ◌++◌, length, get_or, drop, find, map, Option, Some, refl, sym, ap, ◌∙◌, subst, arith, ◌⊎◌, inl, inr}
use Rattle.std.specs.Prelude.{◌==◌, ◌&&◌, filter, nat_le, slice_get, is_some, IfOk, IsSome, Result, Ok, Err}
use Rattle.std.specs.List.{All, AllByRecursion, flat_map}
use Rattle.std.proofs.lemmas.Bool.{eq-eqb, eqb-true, le-leb, leb-false, leb-true, lt-leb, ne_eqb}
use Rattle.std.proofs.lemmas.List.Elements.{All-from_recursion, filter-append}
use Rattle.dmn_block.specs.State.{State}
use Rattle.dmn_bytes.specs.declared.hash.Hash256.{Hash256}
use Rattle.dmn_bytes.specs.declared.points.OutPoint.{OutPoint}
use Rattle.dmn_bytes.specs.Points.{is_zero}
use Rattle.dmn_held.specs.declared.data.HeightData.{HeightData}
use Rattle.dmn_held.specs.declared.data.SnapshotData.{SnapshotData}
use Rattle.dmn_held.specs.Defs.{IsHeld}
use Rattle.dmn_indexes.specs.declared.indexes.Indexes.{Indexes}
use Rattle.dmn_payloads.specs.declared.commitment.Commitment.{Commitment}
use Rattle.dmn_payloads.specs.declared.mined.MinedAt.{MinedAt}
use Rattle.dmn_quorums.specs.Duty.{active_at, all_active_at, is_of, last, mined_at, types_of}
use Rattle.dmn_restore.specs.Lists.{lists_behind, lists_of, lowest_list, next_list}
use Rattle.dmn_restore.specs.Proper.{AreProper, IsProper}
use Rattle.dmn_restore.specs.Restored.{listing_in}
use Rattle.dmn_rows.specs.declared.profile.Profile.{Profile}
use Rattle.dmn_rows.specs.declared.profile.QuorumParams.{QuorumParams}
use Rattle.dmn_rows.specs.Listing.{Listing}
use Rattle.dmn_rows.specs.Rows.{has_hash, has_point, plain_rows}
use Rattle.dmn_held.specs.declared.coinbase.CoinbasePart.{CoinbasePart}
use Rattle.dmn_branch.specs.declared.held.Held.{Held}
use Rattle.dmn_branch.specs.Coinbases.{coinbase_of}
use Rattle.dmn_branch.specs.Holds.{AllGive, Gives, Holds, Reading, lowest, next_reading, readings_behind}
use Rattle.dmn_branch.specs.Lean.{AreLean, IsLean, has_type}
use Rattle.dmn_branch.specs.Machine as machine
use Rattle.dmn_branch.specs.Machine.{MachineState, held_states, tip}
use Rattle.dmn_branch.specs.Stands.{AllStand, AreSound, GivesActive, IsKept, IsWhole, Keeping, Kept, MinedFrom, StandsAt, StandsFor, kept_in, lists_in, low_kept}
use Rattle.dmn_branch.specs.Telling.{AreChanges, IsChange, IsTellable, IsTold, commitments_at, is_at}
use Rattle.dmn_branch.proofs.Active.{MinedTo, from_lower, is_kind, last_alike, mined_to, of_all, to_higher}
use Rattle.dmn_branch.proofs.Every.{every_append, every_both, every_drop, every_then}
use Rattle.dmn_branch.proofs.Gathering.{PicksEach, last_twice, picks_each}
use Rattle.dmn_branch.proofs.Holding.{list_whole, lists_length}
use Rattle.dmn_branch.proofs.Standing.{low_is, tip_height}

-- ---- the commitments of one height among those of all

abbrev is_here : QuorumParams → ℕ → MinedAt → Bool
is_here p height m = is_kind p m && (m.height == height)

-- a commitment of this kind is of one of these types
abbrev HasItsType : List (Option QuorumParams) → QuorumParams → Type 0
HasItsType quorums p = (c : Commitment) → (c.kind == p.kind) ≡ true → has_type quorums c ≡ true

found_among : (types : List QuorumParams) → AllByRecursion (λ (p : QuorumParams). (kind : ℕ) → (kind == p.kind) ≡ true → is_some (find (λ (q : QuorumParams). q.kind == kind) types) ≡ true) types
found_among [] = tt
found_among (p ∷ types) = (
  λ kind same. ap (λ (b : Bool). is_some (cond b (Some p) (find (λ (q : QuorumParams). q.kind == kind) types))) (eq-eqb p.kind kind (sym (eqb-true kind p.kind same))),
  every_then (λ (r : QuorumParams) (found : (kind : ℕ) → (kind == r.kind) ≡ true → is_some (find (λ (q : QuorumParams). q.kind == kind) types) ≡ true).
      λ (kind : ℕ) same. elim (p.kind == kind) as (λ (b : Bool). is_some (cond b (Some p) (find (λ (q : QuorumParams). q.kind == kind) types)) ≡ true) [ true ↦ refl | false ↦ found kind same ]) types (found_among types),
)

have_types : (quorums : List (Option QuorumParams)) → AllByRecursion (HasItsType quorums) (types_of quorums)
have_types quorums = every_then (λ (p : QuorumParams) (found : (kind : ℕ) → (kind == p.kind) ≡ true → is_some (find (λ (q : QuorumParams). q.kind == kind) (types_of quorums)) ≡ true). λ (c : Commitment) same. found c.kind same) (types_of quorums) (found_among (types_of quorums))

here_filtered : (quorums : List (Option QuorumParams)) (p : QuorumParams) → HasItsType quorums p → (height : ℕ) (mined : List MinedAt) → filter (is_of p height) (mined_at height (commitments_at quorums height mined)) ≡ filter (is_here p height) mined
here_filtered quorums p has height [] = refl
here_filtered quorums p has height (m ∷ mined) = go (is_kind p m) (m.height == height) (has_type quorums m.commitment) refl refl refl (here_filtered quorums p has height mined)
  where
    go : (k h t : Bool) → is_kind p m ≡ k → (m.height == height) ≡ h → has_type quorums m.commitment ≡ t → filter (is_of p height) (mined_at height (commitments_at quorums height mined)) ≡ filter (is_here p height) mined → filter (is_of p height) (mined_at height (commitments_at quorums height (m ∷ mined))) ≡ filter (is_here p height) (m ∷ mined)
    go true false t a b e rest = rw (b, a) rest
    go false false t a b e rest = rw (b, a) rest
    go false true true a b e rest = rw (b, e, a) rest
    go false true false a b e rest = rw (b, e, a) rest
    go true true false a b e rest = let no : true ≡ false = sym (has m.commitment a) ∙ e in absurd cc
    go true true true a b e rest =
        let same : nat_le height height ≡ true = le-leb height height (omega arith) in
        let is : m.height ≡ height = eqb-true m.height height b in
        rw (b, e, a, same) (ap (λ (n : ℕ). (record { height = n; commitment = m.commitment }) ∷ filter (is_of p height) (mined_at height (commitments_at quorums height mined))) (sym is) ∙ ap (λ (l : List MinedAt). m ∷ l) rest)

from_skip : (p : QuorumParams) (least tip : ℕ) (m : MinedAt) (mined : List MinedAt) → MinedFrom least (filter (is_of p tip) (m ∷ mined)) → MinedFrom least (filter (is_of p tip) mined)
from_skip p least tip m mined from = go (is_of p tip m) from
  where
    go : (b : Bool) → MinedFrom least (cond b (m ∷ filter (is_of p tip) mined) (filter (is_of p tip) mined)) → MinedFrom least (filter (is_of p tip) mined)
    go true f = from_lower least m.height (filter (is_of p tip) mined) f.0 f.1
    go false f = f

-- where a list of a type begins above a height, none of it is at or below the height
none_below : (p : QuorumParams) (height tip : ℕ) (mined : List MinedAt) → height ≤ tip → MinedFrom (suc height) (filter (is_of p tip) mined) → filter (is_of p height) mined ≡ []
none_below p height tip [] le from = refl
none_below p height tip (m ∷ mined) le from = go (is_kind p m) (nat_le m.height height) (nat_le m.height tip) refl refl refl (none_below p height tip mined le (from_skip p (suc height) tip m mined from))
  where
    go : (k h t : Bool) → is_kind p m ≡ k → nat_le m.height height ≡ h → nat_le m.height tip ≡ t → filter (is_of p height) mined ≡ [] → filter (is_of p height) (m ∷ mined) ≡ []
    go false h t a b e rest = rw a rest
    go true false t a b e rest = rw (a, b) rest
    go true true true a b e rest =
        let f : MinedFrom (suc height) (m ∷ filter (is_of p tip) mined) = rw (a, e) at from in
        absurd (omega (arith, f.0, leb-true m.height height b))
    go true true false a b e rest = absurd (omega (arith, le, leb-true m.height height b, leb-false m.height tip e))

where_is : (n h : ℕ) → (n ≤ h) ⊎ ((n ≡ suc h) ⊎ (suc h < n))
where_is n h = grind arith

-- those up to the next height are those up to a height, and behind them those of the next one
one_more : (p : QuorumParams) (least height tip : ℕ) (mined : List MinedAt) → suc height ≤ tip → MinedFrom least (filter (is_of p tip) mined) → filter (is_of p (suc height)) mined ≡ filter (is_of p height) mined ++ filter (is_here p (suc height)) mined
one_more p least height tip [] le from = refl
one_more p least height tip (m ∷ mined) le from = go (is_kind p m) refl (where_is m.height height) (one_more p least height tip mined le (from_skip p least tip m mined from))
  where
    go : (k : Bool) → is_kind p m ≡ k → (m.height ≤ height) ⊎ ((m.height ≡ suc height) ⊎ (suc height < m.height)) → filter (is_of p (suc height)) mined ≡ filter (is_of p height) mined ++ filter (is_here p (suc height)) mined
        → filter (is_of p (suc height)) (m ∷ mined) ≡ filter (is_of p height) (m ∷ mined) ++ filter (is_here p (suc height)) (m ∷ mined)
    go false a w rest = rw a rest
    go true a (inl below) rest =
        let up : nat_le m.height (suc height) ≡ true = le-leb m.height (suc height) (omega (arith, below)) in
        let at : nat_le m.height height ≡ true = le-leb m.height height below in
        let other : (m.height == suc height) ≡ false = ne_eqb m.height (suc height) (λ (is : m.height ≡ suc height). omega (arith, is, below)) in
        rw (a, up, at, other) (ap (λ (l : List MinedAt). m ∷ l) rest)
    go true a (inr (inl here)) rest =
        let up : nat_le m.height (suc height) ≡ true = le-leb m.height (suc height) (omega (arith, here)) in
        let at : nat_le m.height height ≡ false = lt-leb m.height height (omega (arith, here)) in
        let same : (m.height == suc height) ≡ true = eq-eqb m.height (suc height) here in
        let low : nat_le m.height tip ≡ true = le-leb m.height tip (omega (arith, here, le)) in
        let f : MinedFrom least (m ∷ filter (is_of p tip) mined) = rw (a, low) at from in
        let none : filter (is_of p height) mined ≡ [] = none_below p height tip mined (omega (arith, le)) (subst (λ (n : ℕ). MinedFrom n (filter (is_of p tip) mined)) here f.1) in
        rw (a, up, at, same) (ap (λ (l : List MinedAt). m ∷ l) (rest ∙ ap (λ (l : List MinedAt). l ++ filter (is_here p (suc height)) mined) none) ∙ sym (ap (λ (l : List MinedAt). l ++ (m ∷ filter (is_here p (suc height)) mined)) none))
    go true a (inr (inr above)) rest =
        let up : nat_le m.height (suc height) ≡ false = lt-leb m.height (suc height) above in
        let at : nat_le m.height height ≡ false = lt-leb m.height height (omega (arith, above)) in
        let other : (m.height == suc height) ≡ false = ne_eqb m.height (suc height) (λ (is : m.height ≡ suc height). omega (arith, is, above)) in
        rw (a, up, at, other) rest

abbrev new_at : List (Option QuorumParams) → ℕ → List MinedAt → List MinedAt
new_at quorums height mined = mined_at height (commitments_at quorums height mined)

active_step : (quorums : List (Option QuorumParams)) (p : QuorumParams) → HasItsType quorums p → (height tip : ℕ) (mined R : List MinedAt) → suc height ≤ tip → MinedFrom 0 (filter (is_of p tip) mined) → MinedTo height R → active_at R p height ≡ active_at mined p height → active_at (R ++ new_at quorums (suc height) mined) p (suc height) ≡ active_at mined p (suc height)
active_step quorums p has height tip mined R le from to same =
    let N = new_at quorums (suc height) mined in
    let front : filter (is_of p (suc height)) R ≡ filter (is_of p height) R = of_all p (suc height) R (to_higher height (suc height) R (omega arith) to) ∙ sym (of_all p height R to) in
    let left : filter (is_of p (suc height)) (R ++ N) ≡ filter (is_of p height) R ++ filter (is_of p (suc height)) N = filter-append (is_of p (suc height)) R N ∙ ap (λ (l : List MinedAt). l ++ filter (is_of p (suc height)) N) front in
    let right : filter (is_of p (suc height)) mined ≡ filter (is_of p height) mined ++ filter (is_of p (suc height)) N = one_more p 0 height tip mined le from ∙ ap (λ (l : List MinedAt). filter (is_of p height) mined ++ l) (sym (here_filtered quorums p has (suc height) mined)) in
    ap (last p.active) left ∙ last_alike p.active (filter (is_of p height) R) (filter (is_of p height) mined) (filter (is_of p (suc height)) N) same ∙ sym (ap (last p.active) right)

-- ---- what is read of each height gives its state

abbrev SameActive : Profile → List MinedAt → List MinedAt → ℕ → Type 0
SameActive profile R mined height = AllByRecursion (λ (p : QuorumParams). active_at R p height ≡ active_at mined p height) (types_of profile.quorums)

abbrev AreOrdered : Profile → ℕ → List MinedAt → Type 0
AreOrdered profile tip mined = AllByRecursion (λ (p : QuorumParams). HasItsType profile.quorums p × MinedFrom 0 (filter (is_of p tip) mined)) (types_of profile.quorums)

abbrev GiveEach : Profile → List MinedAt → List State → Type 0
GiveEach profile mined states = AllByRecursion (λ (p : QuorumParams). AllByRecursion (λ (s : State). active_at mined p s.height ≡ active_at s.mined p s.height) states) (types_of profile.quorums)

gives_one : (profile : Profile) (ix : Indexes) (mined : List MinedAt) (height : ℕ) (h : Held) (r : Reading) (s : State) (states : List State) → r.hash ≡ h.hash → r.coinbase ≡ h.coinbase → r.list ≡ listing_in ix h.version → SameActive profile r.mined mined height
    → StandsAt (kept_in ix height h) s → h.coinbase ≡ coinbase_of s → GiveEach profile mined (s ∷ states) → Gives profile r s
gives_one profile ix mined height h r s states hash coinbase list same stands part gives = record {
  hash = hash ∙ stands.hash;
  coinbase = coinbase ∙ part;
  rows = ap (λ (l : Listing). plain_rows s.height l.rows) list ∙ stands.rows;
  outputs = ap (λ (l : Listing). l.outputs) list ∙ stands.outputs;
  quorums = every_both (λ (p : QuorumParams) (is : active_at r.mined p height ≡ active_at mined p height) (all : AllByRecursion (λ (s : State). active_at mined p s.height ≡ active_at s.mined p s.height) (s ∷ states)).
      subst (λ (n : ℕ). active_at r.mined p n ≡ active_at mined p n) stands.height is ∙ all.0) (types_of profile.quorums) same gives;
}

gives_behind : (profile : Profile) (ix : Indexes) (mined : List MinedAt) (tip height : ℕ) (before : Held) (r : Reading) (rest : List Held) (heights : List HeightData) (states : List State) → r.list ≡ listing_in ix before.version → MinedTo height r.mined → SameActive profile r.mined mined height → AreOrdered profile tip mined
    → height + length rest ≤ tip → AreChanges ix profile.quorums height mined before rest heights → AllStand (lists_in ix (suc height) rest) states → map (λ (h : Held). h.coinbase) rest ≡ map coinbase_of states → GiveEach profile mined states → AllGive profile (readings_behind height r heights) states
gives_behind profile ix mined tip height before r [] [] [] list to same ordered le changes stands parts gives = tt
gives_behind profile ix mined tip height before r [] [] (s ∷ states) list to same ordered le changes stands parts gives = absurd stands
gives_behind profile ix mined tip height before r [] (d ∷ heights) states list to same ordered le changes stands parts gives = absurd changes
gives_behind profile ix mined tip height before r (h ∷ rest) [] states list to same ordered le changes stands parts gives = absurd changes
gives_behind profile ix mined tip height before r (h ∷ rest) (d ∷ heights) [] list to same ordered le changes stands parts gives = absurd stands
gives_behind profile ix mined tip height before r (h ∷ rest) (d ∷ heights) (s ∷ states) list to same ordered le changes stands parts gives =
    let next = next_reading (suc height) r d in
    let change : IsChange ix profile.quorums before h (suc height) mined d = changes.0 in
    let list_next : next.list ≡ listing_in ix h.version = ap (λ (l : Listing). next_list l d) list ∙ change.list in
    let same_next : SameActive profile next.mined mined (suc height) =
    every_both (λ (p : QuorumParams) (has : HasItsType profile.quorums p × MinedFrom 0 (filter (is_of p tip) mined)) (is : active_at r.mined p height ≡ active_at mined p height).
    subst (λ (l : List Commitment). active_at (r.mined ++ mined_at (suc height) l) p (suc height) ≡ active_at mined p (suc height)) (sym change.mined) (active_step profile.quorums p has.0 height tip mined r.mined (omega (arith, le)) has.1 to is)) (types_of profile.quorums) ordered same in
    let to_next : MinedTo (suc height) next.mined = every_append (λ (m : MinedAt). m.height ≤ suc height) r.mined (mined_at (suc height) d.mined) (to_higher height (suc height) r.mined (omega arith) to) (mined_to (suc height) d.mined) in
    let part : h.coinbase ≡ coinbase_of s = ap (λ (l : List (Option CoinbasePart)). get_or l 0 h.coinbase) parts in
    let parts_rest : map (λ (h : Held). h.coinbase) rest ≡ map coinbase_of states = ap (drop 1) parts in (
      gives_one profile ix mined (suc height) h next s states change.hash change.coinbase list_next same_next stands.0 part gives,
      gives_behind profile ix mined tip (suc height) h next rest heights states list_next to_next same_next ordered (omega (arith, le)) changes.1 stands.1 parts_rest
          (every_then (λ (p : QuorumParams) (all : AllByRecursion (λ (s : State). active_at mined p s.height ≡ active_at s.mined p s.height) (s ∷ states)). all.1) (types_of profile.quorums) gives),
    )

-- ---- the quorums of the lowest height

of_to : (p : QuorumParams) (height : ℕ) (mined : List MinedAt) → MinedTo height (filter (is_of p height) mined)
of_to p height [] = tt
of_to p height (m ∷ mined) = go (is_kind p m) (nat_le m.height height) refl refl (of_to p height mined)
  where
    go : (k h : Bool) → is_kind p m ≡ k → nat_le m.height height ≡ h → MinedTo height (filter (is_of p height) mined) → MinedTo height (filter (is_of p height) (m ∷ mined))
    go false h a b rest = rw a rest
    go true false a b rest = rw (a, b) rest
    go true true a b rest = rw (a, b) (leb-true m.height height b, rest)

active_to : (p : QuorumParams) (height : ℕ) (mined : List MinedAt) → MinedTo height (active_at mined p height)
active_to p height mined = every_drop (λ (m : MinedAt). m.height ≤ height) (length (filter (is_of p height) mined) - p.active) (filter (is_of p height) mined) (of_to p height mined)

all_to : (mined : List MinedAt) (height : ℕ) (quorums : List (Option QuorumParams)) → MinedTo height (all_active_at mined quorums height)
all_to mined height quorums = go (types_of quorums)
  where
    go : (types : List QuorumParams) → MinedTo height (flat_map (λ params. active_at mined params height) types)
    go [] = tt
    go (p ∷ types) = every_append (λ (m : MinedAt). m.height ≤ height) (active_at mined p height) (flat_map (λ params. active_at mined params height) types) (active_to p height mined) (go types)

lowest_same : (profile : Profile) (mined : List MinedAt) (height : ℕ) → PicksEach profile mined height → SameActive profile (all_active_at mined profile.quorums height) mined height
lowest_same profile mined height picks =
    every_then (λ (p : QuorumParams) (own : filter (is_kind p) (all_active_at mined profile.quorums height) ≡ active_at mined p height).
    ap (last p.active) (of_all p height (all_active_at mined profile.quorums height) (all_to mined height profile.quorums) ∙ own) ∙ last_twice p.active (filter (is_of p height) mined)) (types_of profile.quorums) picks

-- ---- what each height keeps

proper_one : (ix : Indexes) (height : ℕ) (h : Held) (list : Listing) → list ≡ listing_in ix h.version → IsWhole (kept_in ix height h) → IsProper height list
proper_one ix height h list is whole = subst (IsProper height) (sym is) (record { keys = whole.keys; penalties = whole.penalties; masternodes = whole.masternodes; collaterals = whole.collaterals })

proper_behind : (ix : Indexes) (quorums : List (Option QuorumParams)) (mined : List MinedAt) (height : ℕ) (before : Held) (list : Listing) (rest : List Held) (heights : List HeightData) → list ≡ listing_in ix before.version → AreChanges ix quorums height mined before rest heights → All IsWhole (lists_in ix (suc height) rest) → AreProper (suc height) (lists_behind list heights)
proper_behind ix quorums mined height before list [] [] is changes whole = tt
proper_behind ix quorums mined height before list [] (d ∷ heights) is changes whole = absurd changes
proper_behind ix quorums mined height before list (h ∷ rest) [] is changes whole = absurd changes
proper_behind ix quorums mined height before list (h ∷ rest) (d ∷ heights) is changes whole =
    let next : next_list list d ≡ listing_in ix h.version = ap (λ (l : Listing). next_list l d) is ∙ (change changes.0).list in
    (proper_one ix (suc height) h (next_list list d) next (whole 0 (kept_in ix (suc height) h) (omega arith)), proper_behind ix quorums mined (suc height) h (next_list list d) rest heights next changes.1 (λ k d lt. whole (suc k) d (omega (arith, lt))))
  where
    change : IsChange ix quorums before h (suc height) mined d → IsChange ix quorums before h (suc height) mined d
    change c = c

hashes_behind : (ix : Indexes) (quorums : List (Option QuorumParams)) (mined : List MinedAt) (height : ℕ) (before : Held) (r : Reading) (rest : List Held) (heights : List HeightData) → AreChanges ix quorums height mined before rest heights → All IsWhole (lists_in ix (suc height) rest) → AllByRecursion (λ (r : Reading). is_zero r.hash.0 ≡ false) (readings_behind height r heights)
hashes_behind ix quorums mined height before r [] [] changes whole = tt
hashes_behind ix quorums mined height before r [] (d ∷ heights) changes whole = absurd changes
hashes_behind ix quorums mined height before r (h ∷ rest) [] changes whole = absurd changes
hashes_behind ix quorums mined height before r (h ∷ rest) (d ∷ heights) changes whole =
    (ap (λ (x : Hash256). is_zero x.0) (hash_of changes.0) ∙ (whole 0 (kept_in ix (suc height) h) (omega arith)).hash, hashes_behind ix quorums mined (suc height) h (next_reading (suc height) r d) rest heights changes.1 (λ k d lt. whole (suc k) d (omega (arith, lt))))
  where
    hash_of : IsChange ix quorums before h (suc height) mined d → d.hash ≡ h.hash
    hash_of c = c.hash

-- ---- all of it

pub all_tellable : (ix : Indexes) (low : ℕ) (held : List Held) → AreSound ix low held → All (IsTellable ix) held
all_tellable ix low held sound k d lt =
    let is : slice_get held k ≡ Some (get_or held k d) = got held k d lt in
    let whole = list_whole low held k (get_or held k d) sound is in
    record { whole = sound.versions k d lt; masternodes = whole.masternodes; collaterals = whole.collaterals }
  where
    got : (held : List Held) (k : ℕ) (d : Held) → k < length held → slice_get held k ≡ Some (get_or held k d)
    got [] k d lt = absurd (omega (arith, lt))
    got (h ∷ held) zero d lt = refl
    got (h ∷ held) (suc k) d lt = got held k d (omega (arith, lt))

pub holds_told : (branch : Keeping) (m : MachineState) (d : SnapshotData) (first : Held) (rest : List Held) → branch.held ≡ first ∷ rest → branch.lists ≡ lists_in branch.indexes (low_kept branch) branch.held → branch.coinbases ≡ map (λ (h : Held). h.coinbase) branch.held
    → IsKept branch.profile branch.first branch.top branch.lists → AreSound branch.indexes (low_kept branch) branch.held → IsTold branch.indexes branch.profile.quorums branch.top (low_kept branch) branch.mined first rest d → IsHeld d → StandsFor branch m → Holds d m
holds_told branch m d first rest is read coinbases kept sound told form stands =
    let ix = branch.indexes in
    let low = low_kept branch in
    let profile = machine.profile m in
    let states = held_states m in
    let at = tip_height branch m kept stands in
    let lists : branch.lists ≡ lists_in ix low (first ∷ rest) = read ∙ ap (lists_in ix low) is in
    let long : length branch.lists ≡ suc (length rest) = ap (λ (l : List Kept). length l) lists ∙ ap suc (lists_length ix (suc low) rest) in
    let all : AllStand (lists_in ix low (first ∷ rest)) states = subst (λ (l : List Kept). AllStand l states) lists stands.lists in
    let parts : map (λ (h : Held). h.coinbase) (first ∷ rest) ≡ map coinbase_of states = ap (map (λ (h : Held). h.coinbase)) (sym is) ∙ sym coinbases ∙ stands.coinbases in
    let wholes : All IsWhole (lists_in ix low (first ∷ rest)) = subst (λ (l : List Held). All IsWhole (lists_in ix low l)) is sound.wholes in
    let active : d.active ≡ all_active_at branch.mined profile.quorums low = told.active ∙ ap (λ (p : Profile). all_active_at branch.mined p.quorums low) stands.profile in
    let to : MinedTo low d.active = subst (MinedTo low) (sym active) (all_to branch.mined low profile.quorums) in
    let same : SameActive profile d.active branch.mined low = subst (λ (l : List MinedAt). SameActive profile l branch.mined low) (sym active) (lowest_same profile branch.mined low (picks_each m.start branch.mined low)) in
    let ordered : AreOrdered profile (tip m).height branch.mined = every_both (λ (p : QuorumParams) (has : HasItsType profile.quorums p) (g : GivesActive branch.mined (tip m).height states p). (has, g.ordered)) (types_of profile.quorums) (have_types profile.quorums) stands.quorums in
    let gives : GiveEach profile branch.mined states = every_then (λ (p : QuorumParams) (g : GivesActive branch.mined (tip m).height states p). g.active) (types_of profile.quorums) stands.quorums in
    let low_at : d.low ≡ low = told.low_is in
    record {
      form = form;
      top = told.top_is ∙ stands.top;
      low = low_at ∙ low_is branch m stands;
      states = subst (λ (n : ℕ). AllGive profile (lowest d ∷ readings_behind n (lowest d) d.heights) states) (sym low_at) (give states all parts gives to same ordered (omega (arith, at, long)));
      proper = subst (λ (n : ℕ). AreProper n (lists_of d)) (sym low_at)
          (proper_one ix low first (lowest d).list told.list (wholes 0 (kept_in ix low first) (omega arith)), proper_behind ix branch.profile.quorums branch.mined low first (lowest d).list rest d.heights told.list told.changes (λ k x lt. wholes (suc k) x (omega (arith, lt))));
      hashes = subst (λ (n : ℕ). AllByRecursion (λ (r : Reading). is_zero r.hash.0 ≡ false) (lowest d ∷ readings_behind n (lowest d) d.heights)) (sym low_at)
          (ap (λ (x : Hash256). is_zero x.0) told.hash ∙ (wholes 0 (kept_in ix low first) (omega arith)).hash, hashes_behind ix branch.profile.quorums branch.mined low first (lowest d) rest d.heights told.changes (λ k x lt. wholes (suc k) x (omega (arith, lt))));
      active = subst (λ (n : ℕ). All (λ (q : MinedAt). q.height ≤ n) d.active) (sym low_at) (All-from_recursion (λ (q : MinedAt). q.height ≤ low) d.active to);
      below = omega (arith, at, told.top_is, kept.tip, kept.some);
      reach = omega (arith, at, told.top_is, kept.reach, kept.some, ap (λ (p : Profile). p.depth) stands.profile);
    }
  where
    give : (states : List State) → AllStand (lists_in branch.indexes (low_kept branch) (first ∷ rest)) states → map (λ (h : Held). h.coinbase) (first ∷ rest) ≡ map coinbase_of states → GiveEach (machine.profile m) branch.mined states → MinedTo (low_kept branch) d.active → SameActive (machine.profile m) d.active branch.mined (low_kept branch)
        → AreOrdered (machine.profile m) (tip m).height branch.mined → low_kept branch + length rest ≤ (tip m).height → AllGive (machine.profile m) (lowest d ∷ readings_behind (low_kept branch) (lowest d) d.heights) states
    give [] all parts gives to same ordered le = absurd all
    give (s ∷ states) all parts gives to same ordered le =
        let part : first.coinbase ≡ coinbase_of s = ap (λ (l : List (Option CoinbasePart)). get_or l 0 first.coinbase) parts in
        let parts_rest : map (λ (h : Held). h.coinbase) rest ≡ map coinbase_of states = ap (drop 1) parts in (
          gives_one (machine.profile m) branch.indexes branch.mined (low_kept branch) first (lowest d) s states told.hash told.coinbase told.list same all.0 part gives,
          gives_behind (machine.profile m) branch.indexes branch.mined (tip m).height (low_kept branch) first (lowest d) rest d.heights states told.list to same ordered le (subst (λ (q : List (Option QuorumParams)). AreChanges branch.indexes q (low_kept branch) branch.mined first rest d.heights) (ap (λ (p : Profile). p.quorums) stands.profile) told.changes) all.1 parts_rest
              (every_then (λ (p : QuorumParams) (each : AllByRecursion (λ (s : State). active_at branch.mined p s.height ≡ active_at s.mined p s.height) (s ∷ states)). each.1) (types_of (machine.profile m).quorums) gives),
        )

-- ---- it is lean

types_at : (quorums : List (Option QuorumParams)) (height : ℕ) (mined : List MinedAt) → AllByRecursion (λ (c : Commitment). has_type quorums c ≡ true) (commitments_at quorums height mined)
types_at quorums height [] = tt
types_at quorums height (m ∷ mined) = go (m.height == height) (has_type quorums m.commitment) refl (types_at quorums height mined)
  where
    go : (h t : Bool) → has_type quorums m.commitment ≡ t → AllByRecursion (λ (c : Commitment). has_type quorums c ≡ true) (commitments_at quorums height mined) → AllByRecursion (λ (c : Commitment). has_type quorums c ≡ true) (map (λ (m : MinedAt). m.commitment) (cond (h && t) (m ∷ filter (is_at quorums height) mined) (filter (is_at quorums height) mined)))
    go true true is rest = (is, rest)
    go true false is rest = rest
    go false t is rest = rest

lean_behind : (ix : Indexes) (quorums : List (Option QuorumParams)) (mined : List MinedAt) (height : ℕ) (before : Held) (list : Listing) (rest : List Held) (heights : List HeightData) → list ≡ listing_in ix before.version → AreChanges ix quorums height mined before rest heights → AreLean quorums list heights
lean_behind ix quorums mined height before list [] [] is changes = tt
lean_behind ix quorums mined height before list [] (d ∷ heights) is changes = absurd changes
lean_behind ix quorums mined height before list (h ∷ rest) [] is changes = absurd changes
lean_behind ix quorums mined height before list (h ∷ rest) (d ∷ heights) is changes =
    let change : IsChange ix quorums before h (suc height) mined d = changes.0 in (
      record {
        mined = subst (AllByRecursion (λ (c : Commitment). has_type quorums c ≡ true)) (sym change.mined) (types_at quorums (suc height) mined);
        removed = subst (λ (l : Listing). AllByRecursion (λ (hash : Hash256). IsSome (find (has_hash hash) l.rows)) d.removed) (sym is) change.removed;
        spent = subst (λ (l : Listing). AllByRecursion (λ (point : OutPoint). IsSome (find (has_point point) l.outputs)) d.spent) (sym is) change.spent;
      },
      lean_behind ix quorums mined (suc height) h (next_list list d) rest heights (ap (λ (l : Listing). next_list l d) is ∙ change.list) changes.1,
    )

flat_same : (one other : List MinedAt) (height : ℕ) (types : List QuorumParams) → AllByRecursion (λ (p : QuorumParams). active_at one p height ≡ active_at other p height) types → flat_map (λ params. active_at one params height) types ≡ flat_map (λ params. active_at other params height) types
flat_same one other height [] all = refl
flat_same one other height (p ∷ types) all =
    ap (λ (l : List MinedAt). l ++ flat_map (λ params. active_at one params height) types) all.0
    ∙ ap (λ (l : List MinedAt). active_at other p height ++ l) (flat_same one other height types all.1)

pub lean_told : (branch : Keeping) (m : MachineState) (d : SnapshotData) (first : Held) (rest : List Held) → IsTold branch.indexes branch.profile.quorums branch.top (low_kept branch) branch.mined first rest d → StandsFor branch m → IsLean (machine.profile m) d
lean_told branch m d first rest told stands =
    let low = low_kept branch in
    let profile = machine.profile m in
    let active : d.active ≡ all_active_at branch.mined profile.quorums low = told.active ∙ ap (λ (p : Profile). all_active_at branch.mined p.quorums low) stands.profile in
    let same : SameActive profile d.active branch.mined low = subst (λ (l : List MinedAt). SameActive profile l branch.mined low) (sym active) (lowest_same profile branch.mined low (picks_each m.start branch.mined low)) in
    record {
      active = active ∙ sym (flat_same d.active branch.mined low (types_of profile.quorums) same) ∙ ap (λ (n : ℕ). all_active_at d.active profile.quorums n) (sym told.low_is);
      heights = subst (λ (p : Profile). AreLean p.quorums (lowest_list d) d.heights) stands.profile (lean_behind branch.indexes branch.profile.quorums branch.mined low first (lowest_list d) rest d.heights told.list told.changes);
    }

-- there is a lowest height
pub record HasFirst (held : List Held) : Type 0 where
  pub first : Held
  pub rest : List Held
  pub is : held ≡ first ∷ rest

pub has_first : (held : List Held) → 0 < length held → HasFirst held
has_first [] some = absurd (omega (arith, some))
has_first (h ∷ held) some = record { first = h; rest = held; is = refl }

pub if_both : {A E : Type 0} {P Q R : A → Type 0} (r : Result A E) → IfOk r P → IfOk r Q → ((x : A) → P x → Q x → R x) → IfOk r R
if_both (Ok x) p q then = then x p q
if_both (Err e) p q then = tt
