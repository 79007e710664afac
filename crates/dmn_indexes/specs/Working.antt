-- What a block's events make of a version, one after another.
use Rattle.std.specs.Prelude.{◌≡◌, ℕ, ◌+◌, ◌-◌, ◌*◌, ◌≤◌, Bool, false, List, map, length, if◌then◌else◌}
use Rattle.dmn_rows.specs.declared.row.MnRow.{MnRow}
use Rattle.dmn_rows.specs.Listing.{Listing}
use Rattle.dmn_rows.specs.Rows.{Outputs}
use Rattle.dmn_indexes.specs.declared.indexes.Indexes.{Indexes}
use Rattle.dmn_indexes.specs.declared.version.Version.{Version}
use Rattle.dmn_indexes.specs.Parts.{shown}
use Rattle.dmn_indexes.specs.Version.{rows_in, outputs_in, Keeps, GrownBy, few}

-- the rows and outputs as they are now, how many events made them, whether these may have changed what the simplified
-- list shows, and the version that has the rows and outputs in the arenas
pub record Worked : Type 0 where
  pub rows : List MnRow
  pub outputs : Outputs
  pub events : ℕ
  pub entries_changed : Bool
  pub indexes : Indexes
  pub version : Version

abbrev pub worked : Indexes → Version → ℕ → Bool → Worked
worked ix v n changed = record { rows = rows_in ix v; outputs = outputs_in ix v; events = n; entries_changed = changed; indexes = ix; version = v }

abbrev pub listing : Worked → Listing
listing w = record { rows = w.rows; outputs = w.outputs }

-- how often a call counts that changes something only where the test holds
abbrev pub counted : Bool → ℕ
counted changes = if changes then 1 else 0

-- nothing was changed, though there may be room for more
abbrev pub IsSame : Worked → Worked → Type 0
IsSame old new = new ≡ record old { indexes = new.indexes }

-- no tree grows above what a tree of height 28 holds, by as many events as there were
pub record StaysSmall (old new : Worked) : Type 0 where
  pub rows : length old.rows + (new.events - old.events) ≤ few
  pub outputs : length old.outputs + (new.events - old.events) ≤ few

-- What events leave: all versions of before, not many more rows and outputs, at most 232 more nodes an event in each
-- arena, and, where no entry was changed, what the simplified list shows.
pub record Leads (old new : Worked) : Type 0 where
  pub counted : old.events ≤ new.events
  pub rows : length new.rows ≤ length old.rows + (new.events - old.events)
  pub outputs : length new.outputs ≤ length old.outputs + (new.events - old.events)
  pub keeps : Keeps old.indexes new.indexes
  pub more : (n : ℕ) × GrownBy n old.indexes new.indexes
  pub grown : StaysSmall old new → GrownBy (232 * (new.events - old.events)) old.indexes new.indexes
  pub entries : new.entries_changed ≡ false → (old.entries_changed ≡ false) × (map shown new.rows ≡ map shown old.rows)
