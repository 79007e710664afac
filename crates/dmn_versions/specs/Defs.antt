-- Search trees whose versions share nodes. A reader begins here; the parts are:
--   Trees  the trees that an arena's nodes make, sound roots, and what a change adds to the nodes
--   Laws   that the orders of the product's keys are total and exact
-- The contracts are said over these words: `reads` of a root is the list of its pairs by ascending keys, as a finite map
-- of std has them, `height_in` its height, and `spare` the number of nodes for which an arena has room.
pub use Rattle.dmn_versions.specs.Laws.{KeyLaws}
pub use Rattle.dmn_versions.specs.Trees.{reads, height_in, spare, without, IsSound, Opens, Grows, Makes, Cuts}
