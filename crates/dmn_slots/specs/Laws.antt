-- Laws about the definitions.
use Rattle.std.specs.Prelude.{◌≡◌, ◌<◌, ◌≤◌, ◌^◌, Option, None, Some, IfSome}
use Rattle.dmn_snapshot.specs.Slot.{IsBounded}
use Rattle.dmn_snapshot.specs.declared.slot.Stored.{Stored}
use Rattle.dmn_slots.specs.Slots.{AreInOrder, IsBehind, IsNext, IsWithin, Slots, newest_mark, newest_of, spare, with_spare}
use Rattle.dmn_slots.specs.declared.mark.Mark.{Mark}

-- Without the slot that isn't the newest, the newest is the same.
abbrev pub NewestStays : Type 0
NewestStays = (slots : Slots) → newest_of (with_spare None slots) ≡ newest_of slots

-- With the next slot in its place, this is the newest.
abbrev pub NextIsNewest : Type 0
NextIsNewest = (slots : Slots) (next : Stored) → IsNext slots next → newest_of (with_spare (Some next) slots) ≡ Some (record { number = spare (newest_mark slots); stored = next })

-- Slots in order stay so.
pub record StayInOrder (slots : Slots) : Type 0 where
  pub without : AreInOrder (with_spare None slots)
  pub next : (next : Stored) → IsNext slots next → AreInOrder (with_spare (Some next) slots)

abbrev pub OrderStays : Type 0
OrderStays = (slots : Slots) → AreInOrder slots → StayInOrder slots

-- The next slot keeps its bounds, where the newest keeps them and there are no more records than bytes, fewer than 2 ^ 62.
abbrev pub NextKeepsBounds : Type 0
NextKeepsBounds = (newest : Option Mark) (next : Stored) → IfSome newest IsWithin → IsBehind newest next → next.records ≤ next.position → next.position < 2 ^ 62 → IsBounded next
