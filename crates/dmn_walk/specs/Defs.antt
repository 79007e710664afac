-- Walks over search trees whose versions share nodes. A reader begins here; the parts are:
--   Delta   how two lists of pairs differ
--   Page    what a page still gives
--   Cursor  what a cursor over a tree has left, and how two of them go on
--   Copy    what a compaction has marked, and what it has copied
pub use Rattle.dmn_walk.specs.Delta.{gone_of, put_of}
pub use Rattle.dmn_walk.specs.Page.{pairs_left}
pub use Rattle.dmn_walk.specs.Copy.{Moves}
