use Rattle.std.proofs.Common.{◌≡◌, take}
use Rattle.dmn_indexes.specs.Version.{values}
use Rattle.dmn_restore.proofs.differing.rows_of.Given as goal

abbrev pub invariant-loop-pair : goal.invariant-loop-pair
invariant-loop-pair l = l.rows.items ≡ values (take l.pair-index l.pairs)
