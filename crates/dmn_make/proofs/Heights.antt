-- The blocks of all steps are within the generator's bounds.
use Rattle.std.proofs.Common.{◌≡◌, ℕ, ◌+◌, ◌^◌, ◌<◌, ◌≤◌, List, [], ◌∷◌, ◌++◌, length, get_or, subst, sym, arith}
use Rattle.std.specs.List.{All, range_with_len}
use Rattle.std.specs.Prelude.{replicate}
use Rattle.std.proofs.lemmas.List.Elements.{All-append, All-cons, All-from_get_or, All-map, All-nil, All-replicate}
use Rattle.std.proofs.lemmas.List.FromFn.{get_or-range_with_len, length-range_with_len}
use Rattle.dmn_make.specs.Steps.{HasHeight, adding, adds, all_steps}
use Rattle.dmn_make.specs.declared.step.Chain.{Chain}
use Rattle.dmn_make.specs.declared.step.Chain.TheVariants.{First, Fork}
use Rattle.dmn_make.specs.declared.step.Step.{Step}
use Rattle.dmn_make.specs.declared.step.Step.TheVariants.{Pin, TakeBack, Tell}

abbrev IsWithin : ℕ → Type 0
IsWithin height = (576 ≤ height) × (height ≤ 2 ^ 24)

range_within : (from count : ℕ) → 576 ≤ from → from + count ≤ 2 ^ 24 → All IsWithin (range_with_len from count)
range_within from count low high = All-from_get_or IsWithin (range_with_len from count) 0 each
  where
    each : (i : ℕ) → i < length (range_with_len from count) → IsWithin (get_or (range_with_len from count) i 0)
    each i lt =
        let less : i < count = omega (arith, lt, length-range_with_len from count) in
        subst IsWithin (sym (get_or-range_with_len from count i 0 less)) (omega (arith, low), omega (arith, high, less))

adds_high : (chain : Chain) (from count : ℕ) → 576 ≤ from → from + count ≤ 2 ^ 24 → All HasHeight (adds chain from count)
adds_high chain from count low high = All-map HasHeight (adding chain) (range_with_len from count) (range_within from count low high)

-- the last page, the other blocks in front of it, those that are taken back, the pin and the first page
abbrev last_page : List Step
last_page = Tell 100 ∷ []

abbrev from_forks : List Step
from_forks = adds Fork 1136 40 ++ last_page

abbrev from_backs : List Step
from_backs = replicate 40 TakeBack ++ from_forks

pub all_heights : All HasHeight all_steps
unfolding all_steps
all_heights =
    let forks : All HasHeight from_forks = All-append HasHeight (adds Fork 1136 40) last_page (adds_high Fork 1136 40 (omega arith) (omega arith)) (All-cons HasHeight (Tell 100) [] tt (All-nil HasHeight)) in
    let backs : All HasHeight from_backs = All-append HasHeight (replicate 40 TakeBack) from_forks (All-replicate HasHeight 40 TakeBack tt) forks in
    All-append HasHeight (adds First 576 600) (Pin 1175 ∷ Tell 0 ∷ from_backs) (adds_high First 576 600 (omega arith) (omega arith))
    (All-cons HasHeight (Pin 1175) (Tell 0 ∷ from_backs) tt (All-cons HasHeight (Tell 0) from_backs tt backs))

pub steps_heights : (steps : List Step) → steps ≡ all_steps → All HasHeight steps
steps_heights steps is = subst (All HasHeight) (sym is) all_heights
