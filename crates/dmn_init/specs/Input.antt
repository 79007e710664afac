-- What is read of an input: all of it, or as many bytes as are read at most.
use Rattle.std.specs.Prelude.{◌≡◌, ℕ, List, take, drop, Result, Ok, Err}
use Rattle.dmn_outside.specs.Failing.{KeepsRoom}
use Rattle.dmn_outside.specs.Line.{LineView, Talk}
use Rattle.dmn_outside.specs.Pieces.{Broke, Took}
use Rattle.dmn_init.specs.declared.input.InputFault.{InputFault}
use Rattle.dmn_init.specs.declared.input.InputFault.TheVariants.{LineFault, Memory}
use Rattle.dmn_init.specs.declared.input.TheConstants.{MOST_READ}

-- what was read is no longer to come; where the line failed or memory ran out, less than that was taken
abbrev pub Inputs : Result (List ℕ) InputFault → Talk → Talk → Type 0
Inputs (Ok text) old new = (text ≡ take MOST_READ old.left) × (new ≡ record old { left = drop MOST_READ old.left })
Inputs (Err LineFault) old new = Broke MOST_READ old new
Inputs (Err Memory) old new = (n : ℕ) × Took n old new

-- a line that tells its room does not fail
abbrev pub ReadsSurely : {T : Type 0} → Result T InputFault → ℕ → ℕ → LineView → LineView → Type 0
ReadsSurely (Ok text) before now old new = KeepsRoom before now old new
ReadsSurely (Err LineFault) before now old new = ⊥
ReadsSurely (Err Memory) before now old new = KeepsRoom before now old new
