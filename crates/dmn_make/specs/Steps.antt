-- What is done with the registry, one step after another.
use Rattle.std.specs.Prelude.{ℕ, ◌^◌, ◌≤◌, List, [], ◌∷◌, ◌++◌, codes, map, replicate}
use Rattle.std.specs.List.{range_with_len}
use Rattle.dmn_make.specs.declared.step.Chain.{Chain}
use Rattle.dmn_make.specs.declared.step.Chain.TheVariants.{First, Fork}
use Rattle.dmn_make.specs.declared.step.Step.{Step}
use Rattle.dmn_make.specs.declared.step.Step.TheVariants.{Add, Pin, TakeBack, Tell}

-- the name of which, with the height, a block's hash is the tag
abbrev pub name_of : Chain → List ℕ
name_of First = codes "block "
name_of Fork = codes "fork "

abbrev pub adding : Chain → ℕ → Step
adding chain height = Add chain height

-- so many blocks, from this height on
abbrev pub adds : Chain → ℕ → ℕ → List Step
adds chain from count = map (adding chain) (range_with_len from count)

-- 600 blocks from height 576 on, a pin of the last list, and its first page of 100; 40 blocks back, 40 others in their place, and
-- the next page of the same pin
unfoldable pub all_steps : List Step
all_steps = adds First 576 600 ++ Pin 1175 ∷ Tell 0 ∷ (replicate 40 TakeBack ++ (adds Fork 1136 40 ++ Tell 100 ∷ []))

-- a block's height is within the generator's bounds
abbrev pub HasHeight : Step → Type 0
HasHeight (Add chain height) = (576 ≤ height) × (height ≤ 2 ^ 24)
HasHeight TakeBack = Unit {0}
HasHeight (Pin height) = Unit {0}
HasHeight (Tell from) = Unit {0}
