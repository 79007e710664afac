-- The commitments that are read of a height are, type by type, those that its block mined.
use Rattle.std.proofs.Common.{◌≡◌, ℕ, zero, suc, ◌+◌, ◌-◌, ◌<◌, ◌≤◌, ◌==◌, Bool, true, false, cond, List, [], ◌∷◌, ◌++◌, length, length-append, drop, filter, map, refl, sym, ap, ◌∙◌, subst, arith}
use Rattle.std.specs.Prelude.{◌&&◌, nat_le}
use Rattle.std.specs.List.{All, AllByRecursion}
use Rattle.std.proofs.lemmas.Bool.{eq-eqb, le-leb, ne_eqb}
use Rattle.std.proofs.lemmas.List.{drop-append-le, length-drop, length-map}
use Rattle.std.proofs.lemmas.List.Elements.{filter-append}
use Rattle.dmn_block.specs.State.{State}
use Rattle.dmn_branch.specs.Holds.{AllGive, Gives, Holds, Reading, lowest, next_reading, readings, readings_behind}
use Rattle.dmn_branch.specs.Machine as machine
use Rattle.dmn_branch.specs.Machine.{MachineState, held_states, history}
use Rattle.dmn_branch.specs.Step.{profile_of}
use Rattle.dmn_held.specs.declared.data.HeightData.{HeightData}
use Rattle.dmn_held.specs.declared.data.SnapshotData.{SnapshotData}
use Rattle.dmn_payloads.specs.declared.commitment.Commitment.{Commitment}
use Rattle.dmn_payloads.specs.declared.mined.MinedAt.{MinedAt}
use Rattle.dmn_quorums.specs.Duty.{active_at, is_of, last, mined_at, types_of}
use Rattle.dmn_rows.specs.declared.profile.Profile.{Profile}
use Rattle.dmn_rows.specs.declared.profile.QuorumParams.{QuorumParams}
use Rattle.dmn_rows.specs.declared.start.StartRecord.{StartRecord}
use Rattle.dmn_rows.specs.Profile.{main_profile, small_profile}
use Rattle.dmn_snapshot_laws.specs.Once.{is_new}
use Rattle.dmn_snapshot_laws.specs.Same.{HasThose, HaveThose}
use Rattle.dmn_snapshot_laws.proofs.Heights.{HeightsFrom, held_from}
use Rattle.dmn_snapshot_laws.proofs.Mining.{HasParts, mined_parts, old_none}

-- ---- what holds of each item

every_drop : {X : Type 0} (P : X → Type 0) (n : ℕ) (xs : List X) → AllByRecursion P xs → AllByRecursion P (drop n xs)
every_drop P zero xs all = all
every_drop P (suc n) [] all = tt
every_drop P (suc n) (x ∷ xs) all = every_drop P n xs all.1

every_filter : {X : Type 0} (P : X → Type 0) (test : X → Bool) (xs : List X) → AllByRecursion P xs → AllByRecursion P (filter test xs)
every_filter P test [] all = tt
every_filter P test (x ∷ xs) all =
    let rest = every_filter P test xs all.1 in
    elim (test x) as (λ (b : Bool). AllByRecursion P (cond b (x ∷ filter test xs) (filter test xs))) [ true ↦ (all.0, rest) | false ↦ rest ]

every_both : {X : Type 0} {P Q R : X → Type 0} → ((x : X) → P x → Q x → R x) → (xs : List X) → AllByRecursion P xs → AllByRecursion Q xs → AllByRecursion R xs
every_both then [] one two = tt
every_both then (x ∷ xs) one two = (then x one.0 two.0, every_both then xs one.1 two.1)

abbrev Below : ℕ → List MinedAt → Type 0
Below height = AllByRecursion (λ (m : MinedAt). m.height < height)

abbrev At : ℕ → List MinedAt → Type 0
At height = AllByRecursion (λ (m : MinedAt). m.height ≡ height)

at_mined : (height : ℕ) (vs : List Commitment) → At height (mined_at height vs)
at_mined height [] = tt
at_mined height (v ∷ vs) = (refl, at_mined height vs)

below_more : (height : ℕ) (xs : List MinedAt) (vs : List Commitment) → Below height xs → Below (suc height) (xs ++ mined_at height vs)
below_more height [] [] all = tt
below_more height [] (v ∷ vs) all = (omega arith, below_more height [] vs tt)
below_more height (m ∷ xs) vs all = (omega (arith, all.0), below_more height xs vs all.1)

-- ---- how many are of a height

abbrev count : ℕ → List MinedAt → ℕ
count height list = length (filter (λ (m : MinedAt). m.height == height) list)

count_below : (height : ℕ) (xs : List MinedAt) → Below height xs → count height xs ≡ 0
count_below height [] all = refl
count_below height (m ∷ xs) all =
    let other : (m.height == height) ≡ false = ne_eqb m.height height (λ (is : m.height ≡ height). omega (arith, is, all.0)) in
    ap (λ (b : Bool). length (cond b (m ∷ filter (λ (m : MinedAt). m.height == height) xs) (filter (λ (m : MinedAt). m.height == height) xs))) other ∙ count_below height xs all.1

count_at : (height : ℕ) (xs : List MinedAt) → At height xs → count height xs ≡ length xs
count_at height [] all = refl
count_at height (m ∷ xs) all =
    ap (λ (b : Bool). length (cond b (m ∷ filter (λ (m : MinedAt). m.height == height) xs) (filter (λ (m : MinedAt). m.height == height) xs))) (eq-eqb m.height height all.0) ∙ ap suc (count_at height xs all.1)

count_append : (height : ℕ) (xs ys : List MinedAt) → count height (xs ++ ys) ≡ count height xs + count height ys
count_append height xs ys =
    ap (λ (l : List MinedAt). length l) (filter-append (λ (m : MinedAt). m.height == height) xs ys) ∙ length-append (filter (λ (m : MinedAt). m.height == height) xs) (filter (λ (m : MinedAt). m.height == height) ys)

count_last : (height k : ℕ) (xs ns : List MinedAt) → Below height xs → At height ns → count height (drop k (xs ++ ns)) ≡ length ns - (k - length xs)
count_last height k [] ns below at = omega (arith, count_at height (drop k ns) (every_drop (λ (m : MinedAt). m.height ≡ height) k ns at), length-drop k ns)
count_last height zero (x ∷ xs) ns below at = omega (arith, count_append height (x ∷ xs) ns, count_below height (x ∷ xs) below, count_at height ns at)
count_last height (suc k) (x ∷ xs) ns below at = omega (arith, count_last height k xs ns below.1 at)

-- ---- the last ones of two lists

abbrev end_of : MinedAt → List MinedAt → MinedAt
end_of d [] = d
end_of d (x ∷ xs) = end_of x xs

end_append : (d : MinedAt) (xs : List MinedAt) (x : MinedAt) → end_of d (xs ++ x ∷ []) ≡ x
end_append d [] x = refl
end_append d (y ∷ xs) x = end_append y xs x

same_end : (k l : ℕ) (xs ys : List MinedAt) (x y : MinedAt) → k ≤ length xs → l ≤ length ys → drop k (xs ++ x ∷ []) ≡ drop l (ys ++ y ∷ []) → x ≡ y
same_end k l xs ys x y one two same =
    sym (end_append x (drop k xs) x)
    ∙ ap (end_of x) (sym (drop-append-le k xs (x ∷ []) one) ∙ same ∙ drop-append-le l ys (y ∷ []) two)
    ∙ end_append x (drop l ys) y

few_new : (a n m x y xn ym : ℕ) → 2 ≤ a → m ≤ 1 → xn ≡ x + n → ym ≡ y + m → n - (xn - a - x) ≡ m - (ym - a - y) → n ≡ m
few_new a n m x y xn ym two few left right same = omega (arith, two, few, left, right, same)

same_new : (a height : ℕ) (xs ns ys ms : List MinedAt) → 2 ≤ a → Below height xs → At height ns → Below height ys → At height ms → length ms ≤ 1 → last a (xs ++ ns) ≡ last a (ys ++ ms) → ns ≡ ms
same_new a height xs ns ys ms two below at low here few same = go ns ms long few (length-append xs ns) (length-append ys ms) same
  where
    long : length ns ≡ length ms
    long =
        few_new a (length ns) (length ms) (length xs) (length ys) (length (xs ++ ns)) (length (ys ++ ms)) two few (length-append xs ns) (length-append ys ms)
        (sym (count_last height (length (xs ++ ns) - a) xs ns below at) ∙ ap (count height) same ∙ count_last height (length (ys ++ ms) - a) ys ms low here)

    go : (ns ms : List MinedAt) → length ns ≡ length ms → length ms ≤ 1 → length (xs ++ ns) ≡ length xs + length ns → length (ys ++ ms) ≡ length ys + length ms → last a (xs ++ ns) ≡ last a (ys ++ ms) → ns ≡ ms
    go [] [] long few left right same = refl
    go [] (m ∷ ms) long few left right same = absurd (omega (arith, long))
    go (n ∷ ns) [] long few left right same = absurd (omega (arith, long))
    go (n ∷ []) (m ∷ []) long few left right same = ap (λ (z : MinedAt). z ∷ []) (same_end (length (xs ++ n ∷ []) - a) (length (ys ++ m ∷ []) - a) xs ys n m (omega (arith, left, two)) (omega (arith, right, two)) same)
    go (n ∷ []) (m ∷ k ∷ ms) long few left right same = absurd (omega (arith, few))
    go (n ∷ k ∷ ns) (m ∷ []) long few left right same = absurd (omega (arith, long))
    go (n ∷ k ∷ ns) (m ∷ j ∷ ms) long few left right same = absurd (omega (arith, few))

-- ---- of one type

abbrev of_type : ℕ → List Commitment → List Commitment
of_type kind = filter (λ (v : Commitment). v.kind == kind)

own_new : (p : QuorumParams) (height : ℕ) (vs : List Commitment) → filter (is_of p height) (mined_at height vs) ≡ mined_at height (of_type p.kind vs)
own_new p height [] = refl
own_new p height (v ∷ vs) = go (own_new p height vs) (v.kind == p.kind) (nat_le height height) (le-leb height height (omega arith))
  where
    this : MinedAt
    this = record { height = height; commitment = v }

    go : filter (is_of p height) (mined_at height vs) ≡ mined_at height (of_type p.kind vs) → (b c : Bool) → c ≡ true
        → cond (b && c) (this ∷ filter (is_of p height) (mined_at height vs)) (filter (is_of p height) (mined_at height vs)) ≡ mined_at height (cond b (v ∷ of_type p.kind vs) (of_type p.kind vs))
    go rest true true is = ap (λ (l : List MinedAt). this ∷ l) rest
    go rest true false is = absurd cc
    go rest false c is = rest

told_new : (height kind : ℕ) (vs : List Commitment) → filter (is_new height kind) (mined_at height vs) ≡ mined_at height (of_type kind vs)
told_new height kind [] = refl
told_new height kind (v ∷ vs) = go (told_new height kind vs) (v.kind == kind) (height == height) (eq-eqb height height refl)
  where
    this : MinedAt
    this = record { height = height; commitment = v }

    go : filter (is_new height kind) (mined_at height vs) ≡ mined_at height (of_type kind vs) → (b c : Bool) → c ≡ true
        → cond (c && b) (this ∷ filter (is_new height kind) (mined_at height vs)) (filter (is_new height kind) (mined_at height vs)) ≡ mined_at height (cond b (v ∷ of_type kind vs) (of_type kind vs))
    go rest true true is = ap (λ (l : List MinedAt). this ∷ l) rest
    go rest false true is = rest
    go rest b false is = absurd cc

back : (height : ℕ) (vs : List Commitment) → map (λ (m : MinedAt). m.commitment) (mined_at height vs) ≡ vs
back height [] = refl
back height (v ∷ vs) = ap (λ (l : List Commitment). v ∷ l) (back height vs)

one_height : (p : QuorumParams) (before : List MinedAt) (d : HeightData) (s : State) → HasParts s → 2 ≤ p.active → Below s.height before → active_at (before ++ mined_at s.height d.mined) p s.height ≡ active_at s.mined p s.height → HasThose d s p
one_height p before d s parts two below active =
    let height = s.height in
    let f = is_of p height in
    let left : filter f (before ++ mined_at height d.mined) ≡ filter f before ++ mined_at height (of_type p.kind d.mined) = filter-append f before (mined_at height d.mined) ∙ ap (λ (l : List MinedAt). filter f before ++ l) (own_new p height d.mined) in
    let right : filter f s.mined ≡ filter f parts.old ++ mined_at height (of_type p.kind parts.new) = ap (filter f) parts.is ∙ filter-append f parts.old (mined_at height parts.new) ∙ ap (λ (l : List MinedAt). filter f parts.old ++ l) (own_new p height parts.new) in
    let few : length (mined_at height (of_type p.kind parts.new)) ≤ 1 = omega (arith, parts.few p.kind, length-map (of_type p.kind parts.new) (λ (c : Commitment). at height c)) in
    let same : mined_at height (of_type p.kind d.mined) ≡ mined_at height (of_type p.kind parts.new) =
    same_new p.active height (filter f before) (mined_at height (of_type p.kind d.mined)) (filter f parts.old) (mined_at height (of_type p.kind parts.new)) two
    (every_filter (λ (m : MinedAt). m.height < height) f before below) (at_mined height (of_type p.kind d.mined))
    (every_filter (λ (m : MinedAt). m.height < height) f parts.old parts.below) (at_mined height (of_type p.kind parts.new)) few
    (ap (last p.active) (sym left) ∙ active ∙ ap (last p.active) right) in
    let told : filter (is_new height p.kind) s.mined ≡ mined_at height (of_type p.kind parts.new) =
    ap (filter (is_new height p.kind)) parts.is ∙ filter-append (is_new height p.kind) parts.old (mined_at height parts.new)
    ∙ ap (λ (l : List MinedAt). l ++ filter (is_new height p.kind) (mined_at height parts.new)) (old_none height p.kind parts.old parts.below) ∙ told_new height p.kind parts.new in
    sym (back height (of_type p.kind d.mined)) ∙ ap (map (λ (m : MinedAt). m.commitment)) (same ∙ sym told)
  where
    at : ℕ → Commitment → MinedAt
    at height c = record { height = height; commitment = c }

-- ---- height by height

abbrev AreMany : Profile → Type 0
AreMany profile = AllByRecursion (λ (p : QuorumParams). 2 ≤ p.active) (types_of profile.quorums)

many_by : (small : Bool) → AreMany (cond small small_profile main_profile)
many_by true = (omega arith, tt)
many_by false = (omega arith, (omega arith, (omega arith, tt)))

many_active : (start : StartRecord) → AreMany (profile_of start)
many_active start = many_by (start.profile == 1)

walk : (profile : Profile) → AreMany profile → (height : ℕ) (before : Reading) (heights : List HeightData) (states : List State) → Below (suc height) before.mined → AllGive profile (readings_behind height before heights) states → HeightsFrom (suc height) states → AllByRecursion HasParts states → HaveThose profile heights states
walk profile many height before [] [] below all from parts = tt
walk profile many height before [] (s ∷ states) below all from parts = absurd all
walk profile many height before (d ∷ heights) [] below all from parts = absurd all
walk profile many height before (d ∷ heights) (s ∷ states) below all from parts =
    let gives : Gives profile (next_reading (suc height) before d) s = all.0 in (
      every_both (λ (p : QuorumParams) (two : 2 ≤ p.active) (active : active_at (before.mined ++ mined_at (suc height) d.mined) p s.height ≡ active_at s.mined p s.height).
          one_height p before.mined d s parts.0 two (subst (λ (h : ℕ). Below h before.mined) (sym from.0) below)
          (ap (λ (h : ℕ). active_at (before.mined ++ mined_at h d.mined) p s.height) from.0 ∙ active)) (types_of profile.quorums) many gives.quorums,
      walk profile many (suc height) (next_reading (suc height) before d) heights states (below_more (suc height) before.mined d.mined below) all.1 from.1 parts.1,
    )

low_active : (low : ℕ) (mined : List MinedAt) → All (λ (m : MinedAt). m.height ≤ low) mined → Below (suc low) mined
low_active low [] all = tt
low_active low (m ∷ mined) all = (omega (arith, all 0 m (omega arith)), low_active low mined (λ k d lt. all (suc k) d (omega (arith, lt))))

pub those_mined : (m : MachineState) (held : SnapshotData) → Holds held m → HaveThose (machine.profile m) held.heights (drop 1 (held_states m))
those_mined m held h =
    go (held_states m) h.states (subst (λ (n : ℕ). HeightsFrom n (held_states m)) (sym h.low) (held_from m)) (every_drop HasParts (machine.low m - (m.start.first - 1)) (history m) (mined_parts m))
  where
    go : (states : List State) → AllGive (machine.profile m) (readings held) states → HeightsFrom held.low states → AllByRecursion HasParts states → HaveThose (machine.profile m) held.heights (drop 1 states)
    go [] all from parts = absurd all
    go (s ∷ states) all from parts = walk (machine.profile m) (many_active m.start) held.low (lowest held) held.heights states (low_active held.low held.active h.active) all.1 from.1 parts.1
