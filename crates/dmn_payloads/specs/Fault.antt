-- What a reader answers of a payload.
use Rattle.std.specs.Prelude.{◌≡◌, ℕ, not, ◌&&◌, ◌==◌, nat_le, List, length, take, Option, Some, None, Result, Ok, Err, if◌then◌else◌}
use Rattle.std.specs.Int.{w16, from_le_bytes}
use Rattle.dmn_bytes.specs.declared.fault.Departure.{Departure}
use Rattle.dmn_bytes.specs.declared.fault.ReadError.{ReadError}
use Rattle.dmn_bytes.specs.declared.fault.ReadError.TheVariants as errors
use Rattle.dmn_bytes.specs.Format.{Format, whole}
use Rattle.dmn_bytes.specs.Law.{place_of}
use Rattle.dmn_payloads.specs.declared.fault.PayloadFault.{PayloadFault}
use Rattle.dmn_payloads.specs.declared.fault.PayloadFault.TheVariants as faults

-- the version, where two bytes are there and it isn't 1
abbrev pub other_version : List ℕ → Option ℕ
other_version t = if nat_le 2 (length t) && not (from_le_bytes w16 (take 2 t) == 1) then Some (from_le_bytes w16 (take 2 t)) else None

abbrev pub payload_fault : ReadError → PayloadFault
payload_fault errors.Memory = faults.Memory
payload_fault (errors.Departs d) = faults.PayloadForm (place_of d)

-- a text departs from its format at this place
abbrev pub DepartsAt : {V : Type 0} → Result V Departure → ℕ → Type 0
DepartsAt (Ok v) at = ⊥
DepartsAt (Err d) at = place_of d ≡ at

-- a fault of form, or memory ran out
abbrev pub FormFails : {V : Type 0} → PayloadFault → Result V Departure → Type 0
FormFails faults.Memory parsed = Unit {0}
FormFails (faults.PayloadForm at) parsed = DepartsAt parsed at
FormFails (faults.PayloadVersion found) parsed = ⊥

abbrev pub AnswersBy : {V : Type 0} → Option ℕ → Result V Departure → Result V PayloadFault → Type 0
AnswersBy (Some found) parsed result = result ≡ Err (faults.PayloadVersion found)
AnswersBy None parsed (Ok v) = parsed ≡ Ok v
AnswersBy None parsed (Err e) = FormFails e parsed

-- Another version is answered first; then the value whose text the payload is, whole, or where the payload departs.
abbrev pub Answers : {V : Type 0} → Format V → List ℕ → Result V PayloadFault → Type 0
Answers f payload result = AnswersBy (other_version payload) (whole f payload) result
