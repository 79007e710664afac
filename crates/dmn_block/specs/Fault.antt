-- What a fault of a block says of its text.
use Rattle.std.specs.Prelude.{ℕ, ◌≤◌, List, length}
use Rattle.dmn_bytes.specs.Defs.{Departs}
use Rattle.dmn_bytes.specs.Law.{place_of}
use Rattle.dmn_bytes.specs.declared.fault.ReadError.{ReadError}
use Rattle.dmn_bytes.specs.declared.fault.ReadError.TheVariants as errors
use Rattle.dmn_block.specs.declared.fault.BlockFault.{BlockFault}
use Rattle.dmn_block.specs.declared.fault.BlockFault.TheVariants as faults
use Rattle.dmn_block.specs.Body.{connect_body}

abbrev pub block_fault : ReadError → BlockFault
block_fault errors.Memory = faults.Memory
block_fault (errors.Departs d) = faults.BlockForm (place_of d)

-- The text departs at this place; without memory it says nothing.
abbrev pub BlockDeparts : BlockFault → List ℕ → Type 0
BlockDeparts faults.Memory text = Unit {0}
BlockDeparts (faults.BlockForm at) text = Departs connect_body text at

-- a place is within the text or at its end
abbrev pub IsWithin : BlockFault → List ℕ → Type 0
IsWithin faults.Memory text = Unit {0}
IsWithin (faults.BlockForm at) text = at ≤ length text
