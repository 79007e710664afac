-- Where file 0 departs from a journal image. Records are judged one after another, and of each its form before what the machine
-- says of it.
use Rattle.std.specs.Prelude.{◌≡◌, ◌⊎◌, ℕ, ◌+◌, List, ◌++◌, drop, Option, None, Some}
use Rattle.dmn_journal.specs.Journal.{AreShort, blocks, gate_place, header_text}
use Rattle.dmn_journal.specs.Reading.{Found, closed, departs, found, found_at, header_departs}
use Rattle.dmn_registry.specs.Machine.{Machine, IsReplayed, Verdict, denied, formless, taken, verdict}
use Rattle.dmn_rows.specs.Defs.{IsStart}

-- The file begins with the header and the commands of this machine, and the next gate is due at this place.
pub record BeginsWith (file : List ℕ) (m : Machine) (at : ℕ) : Type 0 where
  pub start : IsStart m.start
  pub replayed : IsReplayed m
  pub place : at ≡ gate_place (header_text m.start) m.commands
  pub short : AreShort m.commands
  pub text : file ≡ (header_text m.start ++ blocks m.commands) ++ drop at file

-- the place that departs, by what the machine says of the record whose gate is at this place: a body begins six bytes behind it
abbrev pub stop_by : ℕ → Verdict → Option ℕ
stop_by at (taken n) = None
stop_by at denied = Some at
stop_by at (formless place) = Some (at + 6 + place)

-- the place that departs, by what stands at this gate's place
abbrev pub stop_at : Machine → ℕ → Found → Option ℕ
stop_at m at closed = None
stop_at m at (found entry) = stop_by at (verdict m entry)
stop_at m at (departs place) = Some place

-- the first field that departs from a journal image is at this place; a record that the machine denies departs at its gate
abbrev pub DepartsAt : List ℕ → ℕ → Type 0
DepartsAt file place = (header_departs file ≡ Some place) ⊎ ((m : Machine) × (at : ℕ) × BeginsWith file m at × (stop_at m at (found_at at (drop at file)) ≡ Some place))
