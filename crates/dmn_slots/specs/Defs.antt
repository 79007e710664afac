-- Two slots of a disk. A reader begins here; the parts are:
--   Slots  what both hold, the newest one, the mark that is kept of it and the next one; what is kept of both
--   Laws   what stays while the next slot is written, and what then holds
-- A slot is defined in dmn_snapshot, and what it holds in dmn_held.
pub use Rattle.dmn_slots.specs.Slots.{AreKept, Slots, mark_in, newest_of, slots_in}
