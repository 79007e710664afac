-- The table of rules by its parts, and the least place that passes a test.
use Rattle.std.proofs.Common.{◌≡◌, ℕ, zero, suc, ◌+◌, ◌<◌, ◌≤◌, Bool, true, false, [], ◌∷◌, Option, Some, None, refl, ap, ◌∙◌, arith, inl, inr}
use Rattle.std.specs.Prelude.{if◌then◌else◌, Result, Ok, Err, OnOk}
use Rattle.std.specs.List.{AllByRecursion}
use Rattle.std.specs.Option.{option_or}
use Rattle.std.specs.Ordering.{nat_cmp}
use Rattle.std.specs.declared.cmp.Ordering.TheVariants.{Less}
use Rattle.std.proofs.lemmas.Bool.{cases_lt}
use Rattle.std.specs.Prelude.{◌&&◌, nat_lt, nat_le, slice_get, drop, length, List, get_or}
use Rattle.std.specs.Option.{option_map}
use Rattle.std.proofs.lemmas.Bool.{lt-ltb, ltb-true, leb-true}
use Rattle.std.proofs.lemmas.List.{drop_more, drop_all}
use Rattle.dmn_rows.specs.declared.verdict.Verdict.{Verdict}
use Rattle.dmn_rows.specs.declared.rule.Rule.TheVariants.{NoCoinbase, VerdictForm}
use Rattle.dmn_tx.specs.declared.tx.Tx.{Tx}
use Rattle.dmn_block.specs.declared.frame.BlockFrame.{BlockFrame}
use Rattle.dmn_block.specs.Shape.{unnumbered, first_broken, by_block, least, passes, is_coinbase, is_second_coinbase, is_in_form, bad_verdict, tx_rules, verdict_rules, begins_with_coinbase, VerdictsAscend}

or_none : (a b : Option ℕ) → option_or a b ≡ None → a ≡ None
or_none None b e = refl
or_none (Some x) b e = absurd cc

-- none below i: none below a lower bound
pub least_none : (n i : ℕ) (test : ℕ → Bool) → least i test ≡ None → n ≤ i → least n test ≡ None
unfolding least
least_none n zero test none le = let z : n ≡ 0 = omega (arith, le) in rw z refl
least_none n (suc i) test none le =
    elim (cases_lt n (suc i)) [
      | inl lt ↦ least_none n i test (or_none (least i test) (if test i then Some i else None) none) (omega (arith, lt))
      | inr ge ↦ let z : n ≡ suc i = omega (arith, le, ge) in rw z none
    ]

-- none below i, and i passes
pub least_found : (n i : ℕ) (test : ℕ → Bool) → least i test ≡ None → test i ≡ true → i < n → least n test ≡ Some i
unfolding least
least_found zero i test none is lt = absurd (omega (arith, lt))
least_found (suc n) i test none is lt =
    elim (cases_lt i n) [
      | inl below ↦ rw (least_found n i test none is below) refl
      | inr at ↦ let z : n ≡ i = omega (arith, lt, at) in rw (z, none, is) refl
    ]

-- none below i, and i doesn't pass
pub least_more : (i : ℕ) (test : ℕ → Bool) → least i test ≡ None → test i ≡ false → least (i + 1) test ≡ None
unfolding least
least_more i test none fails = let z : i + 1 ≡ suc i = omega arith in rw (z, none, fails) refl

-- a test of the value at a place
pub passes_at : {X : Type 0} (test : X → Bool) (xs : List X) (i : ℕ) (d : X) → i < length xs → passes test (slice_get xs i) ≡ test (get_or xs i d)
passes_at test [] i d lt = absurd (omega (arith, lt))
passes_at test (x ∷ xs) zero d lt = refl
passes_at test (x ∷ xs) (suc i) d lt = passes_at test xs i d (omega (arith, lt))

-- ---- coinbases

pub none_before_second : (txs : List Tx) → least 1 (is_second_coinbase txs) ≡ None
unfolding least
none_before_second txs = refl

pub second_is : (txs : List Tx) (i : ℕ) (d : Tx) → 1 ≤ i → i < length txs → is_coinbase (get_or txs i d) ≡ true → is_second_coinbase txs i ≡ true
second_is txs i d low lt is = rw (lt-ltb 0 i (omega (arith, low)), passes_at is_coinbase txs i d lt, is) refl

and_false : (a b : Bool) → b ≡ false → (a && b) ≡ false
and_false true b e = e
and_false false b e = refl

pub second_not : (txs : List Tx) (i : ℕ) (d : Tx) → i < length txs → is_coinbase (get_or txs i d) ≡ false → is_second_coinbase txs i ≡ false
second_not txs i d lt fails = and_false (nat_lt 0 i) (passes is_coinbase (slice_get txs i)) (passes_at is_coinbase txs i d lt ∙ fails)

pub none_first : (block : BlockFrame) → block.txs ≡ [] → first_broken (unnumbered (tx_rules block)) ≡ Some (by_block NoCoinbase)
unfolding tx_rules begins_with_coinbase
none_first block none = rw none refl

-- ---- verdicts

both : (a b : Bool) → (a && b) ≡ true → (a ≡ true) × (b ≡ true)
both true true h = (h, h)
both true false h = absurd cc
both false b h = absurd cc

-- the first two of the five parts of a verdict's form
pub in_form : (count from : ℕ) (v : Verdict) → is_in_form count from v ≡ true → (from ≤ v.tx) × (v.tx < count)
unfolding is_in_form
in_form count from v is =
    let a = nat_le from v.tx in
    let b = nat_lt v.tx count in
    let four = both (a && b && nat_le 1 v.kind && nat_le v.kind 4) (nat_le v.valid 1) is in
    let three = both (a && b && nat_le 1 v.kind) (nat_le v.kind 4) four.0 in
    let two = both (a && b) (nat_le 1 v.kind) three.0 in
    let one = both a b two.0 in
    (leb-true from v.tx one.0, ltb-true v.tx count one.1)

pub in_form_from : (count from : ℕ) (v : Verdict) → is_in_form count from v ≡ true → from ≤ v.tx
in_form_from count from v is = (in_form count from v is).0

pub in_form_below : (count from : ℕ) (v : Verdict) → is_in_form count from v ≡ true → v.tx < count
in_form_below count from v is = (in_form count from v is).1

pub bad_here : (count from : ℕ) (vs : List Verdict) (i : ℕ) (d : Verdict) → i < length vs → is_in_form count from (get_or vs i d) ≡ false → option_map (λ k. i + k) (bad_verdict count from (drop i vs)) ≡ Some i
unfolding bad_verdict
bad_here count from vs i d lt fails = rw (drop_more vs i d lt, fails) (ap Some (omega arith))

map_map : (i : ℕ) (o : Option ℕ) → option_map (λ k. i + k) (option_map suc o) ≡ option_map (λ k. (i + 1) + k) o
map_map i None = refl
map_map i (Some k) = ap Some (omega arith)

pub bad_next : (count from : ℕ) (vs : List Verdict) (i : ℕ) (d : Verdict) → i < length vs → is_in_form count from (get_or vs i d) ≡ true → option_map (λ k. i + k) (bad_verdict count from (drop i vs)) ≡ option_map (λ k. (i + 1) + k) (bad_verdict count ((get_or vs i d).tx + 1) (drop (i + 1) vs))
unfolding bad_verdict
bad_next count from vs i d lt is = rw (drop_more vs i d lt, is) (map_map i (bad_verdict count ((get_or vs i d).tx + 1) (drop (i + 1) vs)))

pub bad_end : (count from : ℕ) (vs : List Verdict) (i : ℕ) → length vs ≤ i → option_map (λ k. i + k) (bad_verdict count from (drop i vs)) ≡ None
unfolding bad_verdict
bad_end count from vs i le = rw (drop_all i vs le) refl

pub some_is_none : {X : Type 0} {x : X} → Some x ≡ None → ⊥
some_is_none e = absurd cc

-- ---- the order of verdicts

map_none : (o : Option ℕ) → option_map suc o ≡ None → o ≡ None
map_none None e = refl
map_none (Some k) e = absurd cc

behind : (k : ℕ) (vs : List Verdict) → AllByRecursion (λ (v : Verdict). k + 1 ≤ v.tx) vs → AllByRecursion (λ (v : Verdict). nat_cmp k v.tx ≡ Less) vs
behind k [] all = tt
behind k (v ∷ vs) all = (rw (lt-ltb k v.tx (omega (arith, all.0))) refl, behind k vs all.1)

from_lower : (low high : ℕ) (vs : List Verdict) → low ≤ high → AllByRecursion (λ (v : Verdict). high ≤ v.tx) vs → AllByRecursion (λ (v : Verdict). low ≤ v.tx) vs
from_lower low high [] le all = tt
from_lower low high (v ∷ vs) le all = (omega (arith, le, all.0), from_lower low high vs le all.1)

ascend_from : (count from : ℕ) (vs : List Verdict) → bad_verdict count from vs ≡ None → AllByRecursion (λ (v : Verdict). from ≤ v.tx) vs × VerdictsAscend vs
unfolding bad_verdict
ascend_from count from [] none = (tt, tt)
ascend_from count from (v ∷ vs) none = go (λ later. ascend_from count (v.tx + 1) vs later) (is_in_form count from v) refl none
  where
    go : (bad_verdict count (v.tx + 1) vs ≡ None → AllByRecursion (λ (w : Verdict). v.tx + 1 ≤ w.tx) vs × VerdictsAscend vs) → (b : Bool) → is_in_form count from v ≡ b → (if b then option_map suc (bad_verdict count (v.tx + 1) vs) else Some 0) ≡ None → AllByRecursion (λ (w : Verdict). from ≤ w.tx) (v ∷ vs) × VerdictsAscend (v ∷ vs)
    go later false is e = absurd cc
    go later true is e =
        let rest = later (map_none (bad_verdict count (v.tx + 1) vs) e) in
        let here : from ≤ v.tx = in_form_from count from v is in
        ((here, from_lower from (v.tx + 1) vs (omega (arith, here)) rest.0), (behind v.tx vs rest.0, rest.1))

form_none : (o : Option ℕ) → first_broken (option_map (λ k. by_block (VerdictForm k)) o ∷ []) ≡ None → o ≡ None
form_none None e = refl
form_none (Some k) e = absurd cc

pub verdicts_ascend : (block : BlockFrame) → first_broken (unnumbered (verdict_rules block)) ≡ None → VerdictsAscend block.verdicts
unfolding verdict_rules
verdicts_ascend block none = (ascend_from (length block.txs) 0 block.verdicts (form_none (bad_verdict (length block.txs) 0 block.verdicts) none)).1

pub on_ok : {V E P : Type 0} (r : Result V E) → P → OnOk r P
on_ok (Ok v) p = p
on_ok (Err e) p = tt
