-- Mined commitments, by the heights at which they were mined.
use Rattle.std.proofs.Common.{◌≡◌, ℕ, ◌+◌, ◌-◌, ◌<◌, ◌≤◌, Bool, true, false, cond, List, [], ◌∷◌, ◌++◌, refl, sym, ap, ◌∙◌, arith, inl, inr}
use Rattle.std.specs.Prelude.{nat_le}
use Rattle.std.proofs.lemmas.Bool.{cases_Bool, le-leb, lt-leb, leb-true, leb-false}
use Rattle.std.proofs.lemmas.List.{append-nil}
use Rattle.std.proofs.lemmas.List.Elements.{filter-append}
use Rattle.dmn_payloads.specs.declared.commitment.Commitment.{Commitment}
use Rattle.dmn_payloads.specs.declared.mined.MinedAt.{MinedAt}
use Rattle.dmn_quorums.specs.Duty.{mined_at, undone}
use Rattle.dmn_branch.specs.Parts.{IsMinedAt}

abbrev up_to : ℕ → MinedAt → Bool
up_to height m = nat_le m.height height

-- those up to a height, of those up to another one at or above it
pub undone_lower : (low high : ℕ) (mined : List MinedAt) → low ≤ high → undone low (undone high mined) ≡ undone low mined
undone_lower low high [] le = refl
undone_lower low high (m ∷ mined) le =
    let rest = undone_lower low high mined le in
    elim (cases_Bool (up_to high m)) [
      | inl in_high ↦ rw in_high (ap (λ (l : List MinedAt). cond (up_to low m) (m ∷ l) l) rest)
      | inr above ↦
          let out : up_to low m ≡ false = lt-leb m.height low (omega (arith, le, leb-false m.height high above)) in
          rw (above, out) rest
    ]

-- those up to a height are up to each one above it
pub undone_higher : (low high : ℕ) (mined : List MinedAt) → low ≤ high → undone high (undone low mined) ≡ undone low mined
undone_higher low high [] le = refl
undone_higher low high (m ∷ mined) le =
    let rest = undone_higher low high mined le in
    elim (cases_Bool (up_to low m)) [
      | inl in_low ↦
          let also : up_to high m ≡ true = le-leb m.height high (omega (arith, le, leb-true m.height low in_low)) in
          rw (in_low, also) (ap (λ (l : List MinedAt). m ∷ l) rest)
      | inr above ↦ rw above rest
    ]

undone_before : (low height : ℕ) (commitments : List Commitment) → low < height → undone low (mined_at height commitments) ≡ []
undone_before low height [] lt = refl
undone_before low height (c ∷ commitments) lt = rw (lt-leb height low lt) (undone_before low height commitments lt)

-- what a block adds stands above what was there
pub undone_added : (low height : ℕ) (old new : List MinedAt) → low < height → IsMinedAt height old new → undone low old ≡ old → undone low new ≡ old
undone_added low height old new lt added settled =
    ap (undone low) added.is ∙ filter-append (up_to low) old (mined_at height added.commitments)
    ∙ ap (λ (l : List MinedAt). l ++ undone low (mined_at height added.commitments)) settled
    ∙ ap (λ (l : List MinedAt). old ++ l) (undone_before low height added.commitments lt) ∙ append-nil old

-- what a block adds leaves those up to the height before it
pub undone_mined : (low height : ℕ) (old new : List MinedAt) → low < height → IsMinedAt height old new → undone low old ≡ old → undone low new ≡ undone low old
undone_mined low height old new lt added settled = undone_added low height old new lt added settled ∙ sym settled

-- the height of the tip, by that of what is held last
pub tip_is : (low count height : ℕ) → height + 1 ≡ low + count → low + count - 1 ≡ height
tip_is low count height last = omega (arith, last)

-- once the commitments above the last height are dropped, those up to it are the same
pub same_dropped : (low count height : ℕ) (mined more : List MinedAt) → height + 1 ≡ low + count → more ≡ undone height mined → undone (low + count - 1) more ≡ undone (low + count - 1) mined
same_dropped low count height mined more last is =
    let tip = tip_is low count height last in
    ap (λ (n : ℕ). undone n more) tip ∙ ap (undone height) is ∙ undone_higher height height mined (omega arith) ∙ ap (λ (n : ℕ). undone n mined) (sym tip)

-- and none is left above it
pub settled_by : (low count height : ℕ) (mined more : List MinedAt) → height + 1 ≡ low + count → more ≡ undone height mined → undone (low + count - 1) more ≡ more
settled_by low count height mined more last is =
    ap (λ (n : ℕ). undone n more) (tip_is low count height last) ∙ ap (undone height) is ∙ undone_higher height height mined (omega arith) ∙ sym is

-- in a branch that is settled no commitment stands above the last height
pub settled_at : (low count height : ℕ) (mined : List MinedAt) → height + 1 ≡ low + count → undone (low + count - 1) mined ≡ mined → undone height mined ≡ mined
settled_at low count height mined last settled = ap (λ (n : ℕ). undone n mined) (sym (tip_is low count height last)) ∙ settled
