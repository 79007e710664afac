-- The steps of a run, one added after another.
use Rattle.std.proofs.Common.{◌≡◌, ℕ, suc, ◌+◌, ◌-◌, ◌<◌, List, [], ◌∷◌, ◌++◌, replicate, sym, ap, ◌∙◌, append_assoc, arith}
use Rattle.dmn_make.specs.Steps.{adding, adds, all_steps}
use Rattle.dmn_make.specs.declared.step.Chain.{Chain}
use Rattle.dmn_make.specs.declared.step.Chain.TheVariants.{First, Fork}
use Rattle.dmn_make.specs.declared.step.Step.{Step}
use Rattle.dmn_make.specs.declared.step.Step.TheVariants.{Pin, TakeBack, Tell}

-- one block more, of those from a height on
pub more_adds : (chain : Chain) (steps next all : List Step) (i to : ℕ) → i < to → next ≡ steps ++ adding chain i ∷ [] → steps ++ adds chain i (to - i) ≡ all → next ++ adds chain (i + 1) (to - (i + 1)) ≡ all
more_adds chain steps next all i to lt is was =
    let one : to - i ≡ suc (to - (i + 1)) = omega arith in
    ap (λ (l : List Step). l ++ adds chain (i + 1) (to - (i + 1))) is
    ∙ append_assoc steps (adding chain i ∷ []) (adds chain (i + 1) (to - (i + 1)))
    ∙ ap (λ (n : ℕ). steps ++ adds chain i n) (sym one)
    ∙ was

-- one block back more
pub more_backs : (steps next all : List Step) (i to : ℕ) → i < to → next ≡ steps ++ TakeBack ∷ [] → steps ++ replicate (to - i) TakeBack ≡ all → next ++ replicate (to - (i + 1)) TakeBack ≡ all
more_backs steps next all i to lt is was =
    let one : to - i ≡ suc (to - (i + 1)) = omega arith in
    ap (λ (l : List Step). l ++ replicate (to - (i + 1)) TakeBack) is
    ∙ append_assoc steps (TakeBack ∷ []) (replicate (to - (i + 1)) TakeBack)
    ∙ ap (λ (n : ℕ). steps ++ replicate n TakeBack) (sym one)
    ∙ was

joined : (a b c : List Step) (p q r : Step) → (((((a ++ p ∷ []) ++ q ∷ []) ++ b) ++ c) ++ r ∷ []) ≡ a ++ p ∷ q ∷ (b ++ (c ++ r ∷ []))
joined a b c p q r =
    append_assoc (((a ++ p ∷ []) ++ q ∷ []) ++ b) c (r ∷ [])
    ∙ append_assoc ((a ++ p ∷ []) ++ q ∷ []) b (c ++ r ∷ [])
    ∙ append_assoc (a ++ p ∷ []) (q ∷ []) (b ++ (c ++ r ∷ []))
    ∙ append_assoc a (p ∷ []) (q ∷ (b ++ (c ++ r ∷ [])))

-- all parts, one behind another
pub all_are : (a b c d e f : List Step) → a ≡ adds First 576 600 → b ≡ a ++ Pin 1175 ∷ [] → c ≡ b ++ Tell 0 ∷ [] → d ≡ c ++ replicate 40 TakeBack → e ≡ d ++ adds Fork 1136 40 → f ≡ e ++ Tell 100 ∷ [] → f ≡ all_steps
unfolding all_steps
all_are a b c d e f one two three four five six =
    six
    ∙ ap (λ (l : List Step). l ++ Tell 100 ∷ []) (five ∙ ap (λ (l : List Step). l ++ adds Fork 1136 40) (four ∙ ap (λ (l : List Step). l ++ replicate 40 TakeBack) (three ∙ ap (λ (l : List Step). l ++ Tell 0 ∷ []) (two ∙ ap (λ (l : List Step). l ++ Pin 1175 ∷ []) one))))
    ∙ joined (adds First 576 600) (replicate 40 TakeBack) (adds Fork 1136 40) (Pin 1175) (Tell 0) (Tell 100)
