use Rattle.std.proofs.Common.{take}
use Rattle.std.specs.List.{flat_map}
use Rattle.dmn_bytes.specs.Sending.{Appends}
use Rattle.dmn_held.specs.Row.{stored_row}
use Rattle.dmn_held.proofs.lists.feed_each_row.Given as goal

abbrev pub invariant-loop-row : goal.invariant-loop-row
invariant-loop-row g l = Appends g.S.Sink.holds g.S.Sink.kept l.fn.sink l.sink (flat_map stored_row.text (take l.row-index l.rows))
