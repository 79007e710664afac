-- What a write does to a file that is known on both sides of its place.
use Rattle.std.proofs.Common.{inl, inr, ◌≤◌, ◌≡◌, ℕ, ◌+◌, ◌-◌, ◌<◌, List, [], ◌∷◌, ◌++◌, length, take, drop, get_or, replicate, sym, ◌∙◌, ap, subst, arith, append_assoc, length-append, take-append-drop}
use Rattle.std.proofs.Math.Seq.{drop-append-add, take-append-add}
use Rattle.std.proofs.lemmas.Bool.{cases_lt}
use Rattle.std.proofs.lemmas.List.{take_at, take_all, take-append-le, take-replicate, drop_all, drop_more, append-nil, length-replicate}
use Rattle.dmn_outside.specs.Changes.{placed}
use Rattle.dmn_outside.specs.Disk.{Torn}

module _ (front : List ℕ) (p : ℕ) (place : length front ≡ p) where
  pub far : (rest : List ℕ) (n : ℕ) → drop (p + n) (front ++ rest) ≡ drop n rest
  far rest n = subst (λ (k : ℕ). drop (k + n) (front ++ rest) ≡ drop n rest) place (drop-append-add front rest n)

  -- what is torn behind the front leaves it
  pub torn_behind : (rest image : List ℕ) (n : ℕ) → Torn p n (front ++ rest) image → image ≡ front ++ drop p image
  torn_behind rest image n torn =
      let there : take p (front ++ rest) ≡ front = take_at front rest p place in
      let same : take p image ≡ front = subst (λ (k : ℕ). take k image ≡ front) (ap length there ∙ place) (torn.before ∙ there) in
      sym (take-append-drop p image) ∙ ap (λ (l : List ℕ). l ++ drop p image) same

  pub placed_behind : (bytes rest : List ℕ) → placed p bytes (front ++ rest) ≡ front ++ (bytes ++ drop (length bytes) rest)
  placed_behind bytes rest =
      let none : p - length (front ++ rest) ≡ 0 = omega (arith, place, length-append front rest) in
      let there : take p (front ++ rest) ≡ front = take_at front rest p place in
      let zeros : replicate (p - length (front ++ rest)) 0 ≡ [] = ap (λ (n : ℕ). replicate n 0) none in
      ap (λ (l : List ℕ). l ++ replicate (p - length (front ++ rest)) 0 ++ bytes ++ drop (p + length bytes) (front ++ rest)) there
      ∙ ap (λ (l : List ℕ). front ++ l ++ bytes ++ drop (p + length bytes) (front ++ rest)) zeros
      ∙ ap (λ (l : List ℕ). front ++ [] ++ bytes ++ l) (far rest (length bytes))
      ∙ ap (λ (l : List ℕ). l ++ bytes ++ drop (length bytes) rest) (append-nil front)
      ∙ append_assoc front bytes (drop (length bytes) rest)

  -- what is torn in one byte leaves all others
  pub torn_byte : (byte : ℕ) (rest image : List ℕ) → Torn p 1 (front ++ byte ∷ rest) image → image ≡ front ++ get_or image p 0 ∷ rest
  torn_byte byte rest image torn =
      let long : p < length image = omega (arith, torn.no_shorter, place, length-append front (byte ∷ rest)) in
      let back : drop p image ≡ get_or image p 0 ∷ rest = drop_more image p 0 long ∙ ap (λ (l : List ℕ). get_or image p 0 ∷ l) (torn.after ∙ far (byte ∷ rest) 1) in
      torn_behind (byte ∷ rest) image 1 torn ∙ ap (λ (l : List ℕ). front ++ l) back

  pub placed_byte : (new byte : ℕ) (rest : List ℕ) → placed p (new ∷ []) (front ++ byte ∷ rest) ≡ front ++ new ∷ rest
  placed_byte new byte rest = placed_behind (new ∷ []) (byte ∷ rest)

-- ---- a text that was lengthened by zeros

module _ (at : ℕ) (old : List ℕ) where
  front_of_zeros : (k : ℕ) → at - length old ≤ k → take at (old ++ replicate k 0) ≡ take at old ++ replicate (at - length old) 0
  front_of_zeros k le = elim (cases_lt (length old) at) [
    | inl behind ↦
        let e : at ≡ length old + (at - length old) = omega arith in
        ap (λ (n : ℕ). take n (old ++ replicate k 0)) e
        ∙ take-append-add old (replicate k 0) (at - length old)
        ∙ ap (λ (l : List ℕ). old ++ l) (take-replicate (at - length old) k 0 le)
        ∙ ap (λ (l : List ℕ). l ++ replicate (at - length old) 0) (sym (take_all at old (omega arith)))
    | inr within ↦
        let none : at - length old ≡ 0 = omega arith in
        take-append-le at old (replicate k 0) within
        ∙ sym (append-nil (take at old))
        ∙ ap (λ (n : ℕ). take at old ++ replicate n 0) (sym none)
  ]

  back_of_zeros : drop at (old ++ replicate (at - length old) 0) ≡ drop at old
  back_of_zeros = elim (cases_lt (length old) at) [
    | inl behind ↦
        drop_all at (old ++ replicate (at - length old) 0) (omega (arith, length-append old (replicate (at - length old) 0), length-replicate {A = ℕ} (at - length old) 0))
        ∙ sym (drop_all at old (omega arith))
    | inr within ↦
        let none : at - length old ≡ 0 = omega arith in
        ap (λ (n : ℕ). drop at (old ++ replicate n 0)) none ∙ ap (λ (l : List ℕ). drop at l) (append-nil old)
  ]

-- bytes put over such a text are placed in the text
pub placed_over : (at end : ℕ) (bytes old : List ℕ) → end ≡ at + length bytes → take at (old ++ replicate (end - length old) 0) ++ bytes ++ drop end (old ++ replicate (end - length old) 0) ≡ placed at bytes old
placed_over at end bytes old is =
    ap (λ (l : List ℕ). l ++ bytes ++ drop end (old ++ replicate (end - length old) 0)) (front_of_zeros at old (end - length old) (omega (arith, is)))
    ∙ ap (λ (l : List ℕ). take at old ++ replicate (at - length old) 0 ++ bytes ++ l) (back_of_zeros end old)
    ∙ ap (λ (n : ℕ). take at old ++ replicate (at - length old) 0 ++ bytes ++ drop n old) is

-- what a slice writes back to the list that it came from
pub written_back : (n : ℕ) (new old : List ℕ) → n ≡ length new → length new ≡ length old → take n (new ++ drop (length new) old) ≡ new
written_back n new old is same =
    ap (λ (l : List ℕ). take n (new ++ l)) (drop_all (length new) old (omega (arith, same)))
    ∙ ap (λ (l : List ℕ). take n l) (append-nil new)
    ∙ take_all n new (omega (arith, is))
