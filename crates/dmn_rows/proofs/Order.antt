-- The first broken rule of a table is the one with the least number.
use Rattle.std.proofs.Common.{◌≡◌, ℕ, ◌<◌, ◌≤◌, Bool, true, false, ◌&&◌, [], ◌∷◌, ◌++◌, Option, Some, None, refl, sym, ◌∙◌, inl, inr, arith, ltb, leb, if◌then◌else◌, subst}
use Rattle.std.specs.List.{AllByRecursion}
use Rattle.std.specs.Option.{option_map}
use Rattle.std.proofs.lemmas.Bool.{and_parts, and_from, ltb-true, leb-true, lt-ltb, le-leb}
use Rattle.dmn_rows.specs.Order.{Has, IsLeast, TellsLeast}
use Rattle.dmn_rows.specs.Table.{Table, when, unnumbered, first_broken, first_of}

-- the numbers ascend, from above `low` to `high`
abbrev lies : {X : Type 0} → ℕ → ℕ → Table X → Bool
lies low high [] = leb low high
lies low high (e ∷ rest) = ltb low e.0 && lies e.0 high rest

lies_lower : {X : Type 0} (low mid high : ℕ) (xs : Table X) → low ≤ mid → lies mid high xs ≡ true → lies low high xs ≡ true
lies_lower low mid high [] le h = le-leb low high (omega (arith, leb-true mid high h))
lies_lower low mid high (e ∷ rest) le h =
    let parts = and_parts (ltb mid e.0) (lies e.0 high rest) h in
    and_from (ltb low e.0) (lies e.0 high rest) (lt-ltb low e.0 (omega (arith, ltb-true mid e.0 parts.0))) parts.1

lies-append : {X : Type 0} (low mid high : ℕ) (xs ys : Table X) → lies low mid xs ≡ true → lies mid high ys ≡ true → lies low high (xs ++ ys) ≡ true
lies-append low mid high [] ys h k = lies_lower low mid high ys (leb-true low mid h) k
lies-append low mid high (e ∷ rest) ys h k =
    let parts = and_parts (ltb low e.0) (lies e.0 mid rest) h in
    and_from (ltb low e.0) (lies e.0 high (rest ++ ys)) parts.0 (lies-append e.0 mid high rest ys parts.1 k)

lies_upper : {X : Type 0} (low mid high : ℕ) (xs : Table X) → mid ≤ high → lies low mid xs ≡ true → lies low high xs ≡ true
lies_upper low mid high [] le h = le-leb low high (omega (arith, leb-true low mid h))
lies_upper low mid high (e ∷ rest) le h =
    let parts = and_parts (ltb low e.0) (lies e.0 mid rest) h in
    and_from (ltb low e.0) (lies e.0 high rest) parts.0 (lies_upper e.0 mid high rest le parts.1)

-- every number of rules that ascend is above the lower end
above : {X : Type 0} (low high : ℕ) (xs : Table X) → lies low high xs ≡ true → (n : ℕ) (refusal : X) → Has xs n refusal → low < n
above low high [] h n refusal has = absurd has
above low high (e ∷ rest) h n refusal has =
    let parts = and_parts (ltb low e.0) (lies e.0 high rest) h in
    let first : low < e.0 = ltb-true low e.0 parts.0 in
    elim has [ inl here ↦ omega (arith, here.0) | inr later ↦ omega (arith, above e.0 high rest parts.1 n refusal later) ]

module _ {X : Type 0} (number : X → ℕ) where
  -- a rule that is broken has this number
  abbrev pub Tells : ℕ → Option X → Type 0
  Tells n None = Unit {0}
  Tells n (Some refusal) = number refusal ≡ n

  abbrev pub Told : Table X → Type 0
  Told = AllByRecursion (λ e. Tells e.0 e.1)

  -- the numbers ascend, from above `low` to `high`, and each is that of its rule
  pub record Lies (low high : ℕ) (xs : Table X) : Type 0 where
    pub holds : lies low high xs ≡ true
    pub told : Told xs

  pub tells_when : (broken : Bool) (refusal : X) → Tells (number refusal) (when broken refusal)
  tells_when true refusal = refl
  tells_when false refusal = tt

  pub tells_map : {A : Type 0} (refusal : A → X) (n : ℕ) → ((a : A) → number (refusal a) ≡ n) → (o : Option A) → Tells n (option_map refusal o)
  tells_map refusal n is None = tt
  tells_map refusal n is (Some a) = is a

  told-append : (xs ys : Table X) → Told xs → Told ys → Told (xs ++ ys)
  told-append [] ys h k = k
  told-append (e ∷ rest) ys h k = (h.0, told-append rest ys h.1 k)

  pub Lies_lower : (low mid high : ℕ) (xs : Table X) → low ≤ mid → Lies mid high xs → Lies low high xs
  Lies_lower low mid high xs le h = record { holds = lies_lower low mid high xs le h.holds; told = h.told }

  pub Lies_upper : (low mid high : ℕ) (xs : Table X) → mid ≤ high → Lies low mid xs → Lies low high xs
  Lies_upper low mid high xs le h = record { holds = lies_upper low mid high xs le h.holds; told = h.told }

  pub Lies-append : (low mid high : ℕ) (xs ys : Table X) → Lies low mid xs → Lies mid high ys → Lies low high (xs ++ ys)
  Lies-append low mid high xs ys h k = record { holds = lies-append low mid high xs ys h.holds k.holds; told = told-append xs ys h.told k.told }

  -- rules that are asked only sometimes
  pub Lies_unless : (b : Bool) (low mid high : ℕ) (xs : Table X) → low ≤ mid → low ≤ high → Lies mid high xs → Lies low high (if b then [] else xs)
  Lies_unless true low mid high xs le some h = record { holds = le-leb low high some; told = tt }
  Lies_unless false low mid high xs le some h = Lies_lower low mid high xs le h

  own_number : (xs : Table X) → Told xs → (n : ℕ) (refusal : X) → Has xs n refusal → n ≡ number refusal
  own_number [] told n refusal has = absurd has
  own_number (e ∷ rest) told n refusal has = elim has [
    | inl here ↦ sym here.0 ∙ sym (subst (Tells e.0) here.1 told.0)
    | inr later ↦ own_number rest told.1 n refusal later
  ]

  -- the rule is broken beside a number, and none beside a lower one
  record IsFirst (xs : Table X) (refusal : X) : Type 0 where
    at : ℕ
    has : Has xs at refusal
    least : (n : ℕ) (other : X) → Has xs n other → at ≤ n

  first_is : (low high : ℕ) (xs : Table X) (refusal : X) → lies low high xs ≡ true → first_of xs ≡ Some refusal → IsFirst xs refusal
  first_is low high [] refusal h first = cc
  first_is low high (e ∷ rest) refusal h first = go (λ found. first_is e.0 high rest refusal parts.1 found) e.1 refl first
    where
      parts : (ltb low e.0 ≡ true) × (lies e.0 high rest ≡ true)
      parts = and_parts (ltb low e.0) (lies e.0 high rest) h

      go : (first_of rest ≡ Some refusal → IsFirst rest refusal) → (o : Option X) → e.1 ≡ o → first_broken (o ∷ unnumbered rest) ≡ Some refusal → IsFirst (e ∷ rest) refusal
      go later (Some x) is found = record {
        at = e.0;
        has = inl (refl, is ∙ found);
        least = λ n q has. elim has [ inl here ↦ omega (arith, here.0) | inr after ↦ omega (arith, above e.0 high rest parts.1 n q after) ];
      }
      go later None is found =
          let behind = later found in
          record {
            at = behind.at;
            has = inr behind.has;
            least = λ n q has. elim has [ inl here ↦ let no : None ≡ Some q = sym is ∙ here.1 in cc | inr after ↦ behind.least n q after ];
          }

  none_broken : (xs : Table X) → first_of xs ≡ None → (n : ℕ) (refusal : X) → Has xs n refusal → ⊥
  none_broken [] none n refusal has = has
  none_broken (e ∷ rest) none n refusal has = go (λ found after. none_broken rest found n refusal after) e.1 refl none
    where
      go : (first_of rest ≡ None → Has rest n refusal → ⊥) → (o : Option X) → e.1 ≡ o → first_broken (o ∷ unnumbered rest) ≡ None → ⊥
      go later (Some x) is found = cc
      go later None is found = elim has [ inl here ↦ let no : None ≡ Some refusal = sym is ∙ here.1 in cc | inr after ↦ later found after ]

  is_least : (low high : ℕ) (xs : Table X) (refusal : X) → Lies low high xs → first_of xs ≡ Some refusal → IsLeast number xs refusal
  is_least low high xs refusal h found =
      let first = first_is low high xs refusal h.holds found in
      let own = own_number xs h.told first.at refusal first.has in
      record {
        has = subst (λ n. Has xs n refusal) own first.has;
        least = λ n q has. subst (λ m. m ≤ n) own (first.least n q has);
        own = own_number xs h.told;
      }

  pub first_tells_least : (low high : ℕ) (xs : Table X) → Lies low high xs → TellsLeast number xs (first_of xs)
  first_tells_least low high xs h = go (first_of xs) refl
    where
      go : (o : Option X) → first_of xs ≡ o → TellsLeast number xs o
      go None none = none_broken xs none
      go (Some refusal) found = is_least low high xs refusal h found
