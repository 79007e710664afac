-- A slot of a file: a gate, the length of what follows, three numbers, and what is held. A slot is a function of its file.
use Rattle.std.specs.Prelude.{◌≡◌, ℕ, ◌+◌, ◌-◌, ◌<◌, ◌≤◌, ◌^◌, ◌==◌, ◌&&◌, Bool, false, not, List, [], ◌∷◌, length, nat_le, nat_lt, if◌then◌else◌, Option, None, Some, Result, Ok, Err, refl}
use Rattle.std.specs.Int.{w64}
use Rattle.dmn_bytes.specs.declared.fault.Departure.{Departure}
use Rattle.dmn_bytes.specs.declared.fault.Departure.TheVariants.{Form}
use Rattle.dmn_bytes.specs.Format.{Format, via, ◌⊗◌, filled, kept, keyed, number}
use Rattle.dmn_bytes.specs.Law.{IsSound}
use Rattle.dmn_bytes.specs.Sound.{kept_here, keyed_sound, number64_sound}
use Rattle.dmn_held.specs.Snapshot.{snapshot, snapshot_to_end}
use Rattle.dmn_held.specs.ToEnd.{IsSoundToEnd, both_to_end, filled_to_end, via_to_end}
use Rattle.dmn_outside.specs.Disk.{Three}
use Rattle.dmn_snapshot.specs.declared.slot.Slot.{Slot}
use Rattle.dmn_snapshot.specs.declared.slot.Stored.{Stored}

-- three numbers, and what is held
unfoldable pub content : Format Stored
content = via
    (λ (sequence, (position, (records, held))). record { sequence = sequence; position = position; records = records; held = held })
    (λ v. (v.sequence, (v.position, (v.records, v.held))))
    (number w64 ⊗ number w64 ⊗ number w64 ⊗ snapshot)

-- the bounds of the three numbers: no journal has as many as 2 ^ 62 bytes
pub record KeepsBounds (sequence position records : ℕ) : Type 0 where
  pub first : 1 ≤ sequence
  pub most : sequence ≤ records + 1
  pub place : records ≤ position
  pub end : position < 2 ^ 62

abbrev pub keeps_bounds : Stored → Bool
keeps_bounds s = nat_le 1 s.sequence && nat_le (s.sequence - 1) s.records && nat_le s.records s.position && nat_lt s.position (2 ^ 62)

abbrev pub size_of : Stored → ℕ
size_of s = length (content.text s)

-- what is stored keeps them
abbrev pub IsBounded : Stored → Type 0
IsBounded s = KeepsBounds s.sequence s.position s.records

-- all of a slot behind its gate; the length counts what follows it
unfoldable pub slot : Format Stored
slot = keyed size_of (number w64) (λ n. kept (λ i. Form i) keeps_bounds (filled n content))

-- it fits its fields and keeps its bounds, so there is a slot of it
abbrev pub IsStored : Stored → Type 0
IsStored = slot.Fits

abbrev pub slot_text : Stored → List ℕ
slot_text = slot.text

abbrev pub value_of : Result (Stored × ℕ) Departure → Option Stored
value_of (Ok read) = Some read.0
value_of (Err departs) = None

-- what a slot holds, by its text behind an open gate; what stands behind the text is free
unfoldable pub slot_behind : List ℕ → Option Stored
slot_behind text = value_of (slot.parse text 0)

-- what a slot holds, by its file; none where it isn't valid
unfoldable pub slot_in : List ℕ → Option Stored
slot_in [] = None
slot_in (gate ∷ text) = if gate == 1 then slot_behind text else None

-- of two slots the one with the greater sequence number, the first where both have the same
abbrev pub newer : Option Stored → Option Stored → Option Slot
newer None None = None
newer (Some a) None = Some (record { number = 1; stored = a })
newer None (Some b) = Some (record { number = 2; stored = b })
newer (Some a) (Some b) = if nat_lt a.sequence b.sequence then Some (record { number = 2; stored = b }) else Some (record { number = 1; stored = a })

-- the newest valid slot
abbrev pub newest_in : Three (List ℕ) → Option Slot
newest_in image = newer (slot_in image.first) (slot_in image.second)

-- ---- a file's first byte

abbrev pub first_of : List ℕ → Option ℕ
first_of [] = None
first_of (gate ∷ text) = Some gate

abbrev pub open_by : Option ℕ → Bool
open_by None = false
open_by (Some gate) = gate == 1

-- a gate that is there and isn't 1
abbrev pub shut_by : Option ℕ → Bool
shut_by None = false
shut_by (Some gate) = not (gate == 1)

-- ---- it reads as its texts

content_to_end : IsSoundToEnd content
unfolding content
content_to_end = via_to_end _ _ _ (λ v. refl) (λ a fits. refl) (both_to_end _ _ number64_sound (both_to_end _ _ number64_sound (both_to_end _ _ number64_sound snapshot_to_end)))

says_size : (n : ℕ) (v : Stored) → (kept (λ i. Form i) keeps_bounds (filled n content)).Fits v → size_of v ≡ n
unfolding filled
says_size n v fits = fits.0.1

pub slot_sound : IsSound slot
unfolding slot
slot_sound = keyed_sound size_of (number w64) (λ n. kept (λ i. Form i) keeps_bounds (filled n content)) says_size number64_sound (λ n. kept_here keeps_bounds (filled n content) (filled_to_end n content content_to_end))
