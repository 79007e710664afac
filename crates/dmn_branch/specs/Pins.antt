-- Pins: lists of masternodes that stay readable, whatever is connected or disconnected, until they are released.
use Rattle.std.specs.Prelude.{ℕ, ◌+◌, ◌≤◌, ◌==◌, not, nat_lt, if◌then◌else◌, List, [], ◌∷◌, ◌++◌, length, take, drop, filter, find, Option, None, Some}
use Rattle.dmn_rows.specs.declared.row.MnRow.{MnRow}

-- a pinned list: the rows of a height as they were in force then
pub record Pinned : Type 0 where
  pub number : ℕ
  pub height : ℕ
  pub rows : List MnRow

-- the pins that are live, and the number of the next one; there is none once the last number was given
pub record Pins : Type 0 where
  pub live : List Pinned
  pub next : Option ℕ

-- so many pins are live at most
abbrev pub most_pins : ℕ
most_pins = 16

abbrev pub last_number : ℕ
last_number = 4294967295

abbrev pub no_pins : Pins
no_pins = record { live = []; next = Some 1 }

abbrev pub number_after : ℕ → Option ℕ
number_after number = if nat_lt number last_number then Some (number + 1) else None

-- the number of one pin more: none where as many are live as may be, or the last number was given
abbrev pub free_number : Pins → Option ℕ
free_number pins = if nat_lt (length pins.live) most_pins then pins.next else None

abbrev pub with_pin : Pins → Pinned → Pins
with_pin pins pin = record { live = pins.live ++ pin ∷ []; next = number_after pin.number }

-- the live pin of a number
abbrev pub pin_of : Pins → ℕ → Option Pinned
pin_of pins number = find (λ pin. pin.number == number) pins.live

abbrev pub without_pin : Pins → ℕ → Pins
without_pin pins number = record { live = filter (λ pin. not (pin.number == number)) pins.live; next = pins.next }

-- a part of a pinned list: as many rows, from a place of the order of hashes on
abbrev pub page_of : ℕ → ℕ → Pinned → List MnRow
page_of from most pin = take most (drop from pin.rows)

-- ---- no number is used twice

abbrev pub IsAtMost : ℕ → Option ℕ → Type 0
IsAtMost least None = Unit {0}
IsAtMost least (Some next) = least ≤ next

-- from a number on, those of live pins ascend, each below the next one that is given
abbrev pub AscendFrom : ℕ → List Pinned → Option ℕ → Type 0
AscendFrom least [] next = IsAtMost least next
AscendFrom least (pin ∷ pins) next = (least ≤ pin.number) × AscendFrom (pin.number + 1) pins next

abbrev pub AreNumbered : Pins → Type 0
AreNumbered pins = AscendFrom 1 pins.live pins.next
