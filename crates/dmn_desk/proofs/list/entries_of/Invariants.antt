use Rattle.std.proofs.Common.{◌≡◌, ◌++◌, length}
use Rattle.dmn_sml.specs.Defs.{simple}
use Rattle.dmn_desk.proofs.list.entries_of.Given as goal

-- what is made, with what is still to come
abbrev pub invariant-rows : goal.invariant-rows
invariant-rows l = l.entries.items ++ simple l.rows.rows ≡ simple l.fn.rows.rows

abbrev pub decreases-rows : goal.decreases-rows
decreases-rows l = length l.rows.rows
