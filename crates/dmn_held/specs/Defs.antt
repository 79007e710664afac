-- What a snapshot holds of a branch, and its text. A reader begins here; the parts are:
--   Snapshot  the table of a snapshot's fields
--   Height    the table of one height's fields, the difference to the height before it
--   Row       a row as it is stored
--   Lists     lists with their counts
--   Coinbase  what proves a block's first transaction; that of the height before the first block
--   ToEnd     formats whose texts end where the text ends
--   Present   a value that is there, as an optional one
use Rattle.std.specs.Prelude.{ℕ, List}
use Rattle.dmn_held.specs.Snapshot.{snapshot}
use Rattle.dmn_held.specs.declared.data.SnapshotData.{SnapshotData}

-- each field fits its place, and the lists ascend, so it has a text
abbrev pub IsHeld : SnapshotData → Type 0
IsHeld = snapshot.Fits

abbrev pub held_text : SnapshotData → List ℕ
held_text = snapshot.text
