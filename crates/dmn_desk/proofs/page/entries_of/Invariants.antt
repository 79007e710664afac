use Rattle.std.proofs.Common.{◌≡◌, ◌++◌}
use Rattle.dmn_indexes.specs.Version.{values}
use Rattle.dmn_sml.specs.Defs.{simple}
use Rattle.dmn_walk.specs.Page.{pairs_left}
use Rattle.dmn_desk.proofs.page.entries_of.Given as goal

-- what is made, with what is still to come
abbrev pub invariant-loop-row : goal.invariant-loop-row
invariant-loop-row l = l.entries.items ++ simple (values (pairs_left l.row-iterator)) ≡ simple (values (pairs_left l.fn.pairs))
