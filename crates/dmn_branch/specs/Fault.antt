-- What a fault of a prepared block says, and that of a pin.
use Rattle.std.specs.Prelude.{◌≡◌, ℕ, Option, None, Some, Result, Err}
use Rattle.dmn_block.specs.declared.fault.ShapeFault.{ShapeFault}
use Rattle.dmn_block.specs.declared.fault.ShapeFault.TheVariants as shapes
use Rattle.dmn_block.specs.declared.refusal.Refusal.{Refusal}
use Rattle.dmn_branch.specs.declared.fault.PinFault.{PinFault}
use Rattle.dmn_branch.specs.declared.fault.PinFault.TheVariants as pin_faults
use Rattle.dmn_branch.specs.declared.fault.PrepareFault.{PrepareFault}
use Rattle.dmn_branch.specs.declared.fault.PrepareFault.TheVariants as faults

abbrev pub of_shape : ShapeFault → PrepareFault
of_shape (shapes.Broken refusal) = faults.Refused refusal
of_shape shapes.Memory = faults.Memory

-- The fault is the refusal that is defined, with its rule, transaction and fields; or memory ran out.
abbrev pub Tells : {X : Type 0} → Result X Refusal → PrepareFault → Type 0
Tells defined (faults.Refused refusal) = defined ≡ Err refusal
Tells defined faults.Memory = Unit {0}

-- The same of a table's first broken rule.
abbrev pub TellsRule : Option Refusal → PrepareFault → Type 0
TellsRule broken (faults.Refused refusal) = broken ≡ Some refusal
TellsRule broken faults.Memory = Unit {0}

-- PinsFull comes where there is no number for a further pin.
abbrev pub TellsFull : Option ℕ → PinFault → Type 0
TellsFull free pin_faults.PinsFull = free ≡ None
TellsFull free pin_faults.Memory = Unit {0}
