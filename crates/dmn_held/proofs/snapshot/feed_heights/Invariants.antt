use Rattle.std.proofs.Common.{take}
use Rattle.std.specs.List.{flat_map}
use Rattle.dmn_bytes.specs.Sending.{Appends}
use Rattle.dmn_held.specs.Height.{height_data}
use Rattle.dmn_held.proofs.snapshot.feed_heights.Given as goal

abbrev pub invariant-loop-height : goal.invariant-loop-height
invariant-loop-height g l = Appends g.S.Sink.holds g.S.Sink.kept l.fn.sink l.sink (flat_map height_data.text (take l.height-index l.heights))
