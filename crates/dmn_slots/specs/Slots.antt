-- What two slots hold; which of them is the newest, and which is written next; what is kept of both.
use Rattle.std.specs.Prelude.{◌≡◌, ◌⊎◌, ℕ, zero, suc, ◌+◌, ◌-◌, ◌<◌, ◌≤◌, ◌^◌, ◌==◌, min, if◌then◌else◌, List, Option, None, Some, IfSome}
use Rattle.dmn_outside.specs.Disk.{Three}
use Rattle.dmn_snapshot.specs.Slot.{KeepsBounds, newer, slot_in}
use Rattle.dmn_snapshot.specs.declared.slot.Slot.{Slot}
use Rattle.dmn_snapshot.specs.declared.slot.Stored.{Stored}
use Rattle.dmn_slots.specs.declared.mark.Mark.{Mark}

-- what each slot holds; none where it isn't valid
pub record Slots : Type 0 where
  pub first : Option Stored
  pub second : Option Stored

abbrev pub slots_in : Three (List ℕ) → Slots
slots_in image = record { first = slot_in image.first; second = slot_in image.second }

-- of two valid slots the one with the greater sequence number
abbrev pub newest_of : Slots → Option Slot
newest_of slots = newer slots.first slots.second

-- ---- marks

abbrev pub mark_of : Slot → Mark
mark_of slot = record { number = slot.number; sequence = slot.stored.sequence; position = slot.stored.position; records = slot.stored.records }

abbrev pub mark_in : Option Slot → Option Mark
mark_in None = None
mark_in (Some slot) = Some (mark_of slot)

-- its three numbers keep the bounds of a slot's
abbrev pub IsWithin : Mark → Type 0
IsWithin mark = KeepsBounds mark.sequence mark.position mark.records

-- the mark of the newest slot
abbrev pub newest_mark : Slots → Option Mark
newest_mark slots = mark_in (newest_of slots)

-- how many records stand before the newest slot's place
abbrev pub records_of : Option Mark → ℕ
records_of None = 0
records_of (Some mark) = mark.records

abbrev pub sequence_of : Option Mark → ℕ
sequence_of None = 0
sequence_of (Some mark) = mark.sequence

-- the number of the slot that isn't the newest
abbrev pub spare : Option Mark → ℕ
spare None = 1
spare (Some mark) = if mark.number == 1 then 2 else 1

-- one more, as far as the number goes
abbrev pub next_sequence : Option Mark → ℕ
next_sequence None = 1
next_sequence (Some mark) = min (mark.sequence + 1) (2 ^ 64 - 1)

-- what is written next, at this place behind so many records
abbrev pub next_mark : Option Mark → ℕ → ℕ → Mark
next_mark newest position records = record { number = spare newest; sequence = next_sequence newest; position = position; records = records }

-- ---- one slot is written

-- the slots, with this in the one of this number
abbrev pub with_slot : ℕ → Option Stored → Slots → Slots
with_slot zero stored slots = slots
with_slot (suc zero) stored slots = record { first = stored; second = slots.second }
with_slot (suc (suc n)) stored slots = record { first = slots.first; second = stored }

-- the slots, with this in the one that isn't the newest
abbrev pub with_spare : Option Stored → Slots → Slots
with_spare stored slots = with_slot (spare (newest_mark slots)) stored slots

-- behind this mark: the next sequence number, and more records
pub record IsBehind (newest : Option Mark) (next : Stored) : Type 0 where
  pub sequence : next.sequence ≡ sequence_of newest + 1
  pub records : records_of newest < next.records

-- behind the newest slot
abbrev pub IsNext : Slots → Stored → Type 0
IsNext slots next = IsBehind (newest_mark slots) next

-- ---- what is kept of both

-- the one is older than the other
pub record IsOlder (a b : Stored) : Type 0 where
  pub sequence : a.sequence < b.sequence
  pub records : a.records < b.records

-- of two valid slots one is older
abbrev pub AreInOrder : Slots → Type 0
AreInOrder slots = IfSome slots.first (λ a. IfSome slots.second (λ b. IsOlder a b ⊎ IsOlder b a))

-- Each valid slot has P, of two one is older, and at most this tail of so many records stands behind the newest.
pub record AreKept (P : Stored → Type 0) (records tail : ℕ) (slots : Slots) : Type 0 where
  pub first : IfSome slots.first P
  pub second : IfSome slots.second P
  pub ordered : AreInOrder slots
  pub tail_is : records ≤ records_of (newest_mark slots) + tail
