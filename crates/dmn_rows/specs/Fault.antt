-- What a fault of a start record says of its text.
use Rattle.std.specs.Prelude.{ℕ, ◌≤◌, List, length}
use Rattle.dmn_bytes.specs.Defs.{Departs}
use Rattle.dmn_bytes.specs.Law.{place_of}
use Rattle.dmn_bytes.specs.declared.fault.ReadError.{ReadError}
use Rattle.dmn_bytes.specs.declared.fault.ReadError.TheVariants as errors
use Rattle.dmn_rows.specs.declared.start.StartFault.{StartFault}
use Rattle.dmn_rows.specs.declared.start.StartFault.TheVariants as faults
use Rattle.dmn_rows.specs.Start.{start_record}

abbrev pub start_fault : ReadError → StartFault
start_fault errors.Memory = faults.Memory
start_fault (errors.Departs d) = faults.StartForm (place_of d)

-- The text departs at this place, within it or at its end; without memory it says nothing.
abbrev pub StartDeparts : StartFault → List ℕ → Type 0
StartDeparts faults.Memory text = Unit {0}
StartDeparts (faults.StartForm at) text = Departs start_record text at × (at ≤ length text)
