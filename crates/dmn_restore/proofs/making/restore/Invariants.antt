use Rattle.dmn_restore.proofs.Rising.{IsUp, lists_from}
use Rattle.dmn_restore.specs.Restored.{listing_in}
use Rattle.dmn_restore.proofs.making.restore.Given as goal

abbrev pub invariant-loop-place : goal.invariant-loop-place
invariant-loop-place l = IsUp l.held.low l.place l.height l.indexes l.versions.items l.last l.heights (lists_from (listing_in l.initial.indexes l.initial.last) l.heights)
