-- The lists of each height of a snapshot, and the trees that are made of them. A reader begins here; the parts are:
--   Lists     the list of each height, folded from the lowest one on
--   Proper    what the list of each height keeps
--   Puts      which rows may be put, one after another
--   Restored  the trees of all heights, and how far the arenas had grown at each
--   Formed    what is in the form in which a snapshot is written
pub use Rattle.dmn_restore.specs.Lists.{lists_of, next_list, next_outputs, next_rows}
pub use Rattle.dmn_restore.specs.Proper.{AreProper, IsProper}
pub use Rattle.dmn_restore.specs.Restored.{AreSound, list_in}
