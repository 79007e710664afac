-- Snapshots in two slots. A reader begins here; the parts are:
--   Slot   what a slot holds, as a function of its file; the newest of two
--   Steps  what writing a slot does to its file
--   Sure   disks that tell their room
-- What is held is defined in dmn_held.
pub use Rattle.dmn_snapshot.specs.Slot.{newest_in, slot_in, slot_text}
pub use Rattle.dmn_snapshot.specs.Steps.{Writing}
