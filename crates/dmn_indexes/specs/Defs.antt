-- Versions of rows and outputs, in trees that share nodes, with six indexes of the rows. A reader begins here; the parts are:
--   Version  what a version reads as, when it is whole, and what an event may add to the arenas
--   Index    an index of rows: the hashes of the rows that have a key, by ascending keys
--   Keys     the keys by which rows are found, and their orders
--   Order    the order of confirmations
--   Marks    how far the arenas had grown at some moment
--   Working  what a block's events make of a version
--   Parts    the keys of a row, and what the simplified list shows of it
--   Stands   a version as the state of a height
pub use Rattle.dmn_indexes.specs.Version.{rows_in, outputs_in, IsWhole, Keeps, GrownBy, HasFewPairs}
pub use Rattle.dmn_indexes.specs.Index.{index_of}
pub use Rattle.dmn_indexes.specs.Working.{Worked, Leads}
