-- A loop that passes over the older commitments of a type.
use Rattle.std.proofs.Common.{◌≡◌, ℕ, suc, ◌+◌, ◌-◌, ◌<◌, true, false, List, ◌∷◌, length, get_or, drop, filter, refl, sym, ap, ◌∙◌, arith, add-one, drop-cons}
use Rattle.std.proofs.lemmas.List.Sums.{length-filter}
use Rattle.dmn_payloads.specs.declared.mined.MinedAt.{MinedAt}
use Rattle.dmn_rows.specs.declared.profile.QuorumParams.{QuorumParams}
use Rattle.dmn_quorums.specs.Duty.{active_at, is_of, older}

module _ (items : List MinedAt) (params : QuorumParams) (height : ℕ) where
  -- what is still to come, so many of which are passed over
  abbrev pub to_come : ℕ → ℕ → List MinedAt
  to_come left i = drop left (filter (is_of params height) (drop i items))

  pub begun : (left : ℕ) → left ≡ older items params height → to_come left 0 ≡ active_at items params height
  begun left is =
      ap (λ (n : ℕ). drop n (filter (is_of params height) items))
      (is ∙ ap (λ (n : ℕ). n - params.active) (sym (length-filter (is_of params height) items)))

  here : (i : ℕ) (m : MinedAt) → i < length items → m ≡ get_or items i m → drop i items ≡ m ∷ drop (i + 1) items
  here i m within is = drop-cons items i m within ∙ ap (λ (x : MinedAt). x ∷ drop (suc i) items) (sym is) ∙ ap (λ (n : ℕ). m ∷ drop n items) (sym (add-one i))

  chosen : (i : ℕ) (m : MinedAt) → i < length items → m ≡ get_or items i m → is_of params height m ≡ true → filter (is_of params height) (drop i items) ≡ m ∷ filter (is_of params height) (drop (i + 1) items)
  chosen i m within is passes = ap (filter (is_of params height)) (here i m within is) ∙ rw passes refl

  pub other : (i : ℕ) (m : MinedAt) (left : ℕ) → i < length items → m ≡ get_or items i m → is_of params height m ≡ false → to_come left i ≡ to_come left (i + 1)
  other i m left within is fails = ap (drop left) (ap (filter (is_of params height)) (here i m within is) ∙ rw fails refl)

  pub passed_over : (i : ℕ) (m : MinedAt) (left now : ℕ) → i < length items → m ≡ get_or items i m → is_of params height m ≡ true → 0 < left → now ≡ left - 1 → to_come left i ≡ to_come now (i + 1)
  passed_over i m left now within is passes some so =
      let more : left ≡ suc now = omega arith in
      ap (λ (n : ℕ). to_come n i) more
      ∙ ap (drop (suc now)) (chosen i m within is passes)

  pub taken : (i : ℕ) (m : MinedAt) (left : ℕ) → i < length items → m ≡ get_or items i m → is_of params height m ≡ true → left ≡ 0 → to_come left i ≡ m ∷ to_come left (i + 1)
  taken i m left within is passes none =
      ap (λ (n : ℕ). to_come n i) none
      ∙ chosen i m within is passes
      ∙ ap (λ (n : ℕ). m ∷ to_come n (i + 1)) (sym none)
