use Rattle.std.proofs.Common.{take}
use Rattle.std.specs.List.{flat_map}
use Rattle.dmn_bytes.specs.Sending.{Appends}
use Rattle.dmn_held.specs.Lists.{mined_at}
use Rattle.dmn_held.proofs.lists.feed_each_mined.Given as goal

abbrev pub invariant-loop-one : goal.invariant-loop-one
invariant-loop-one g l = Appends g.S.Sink.holds g.S.Sink.kept l.fn.sink l.sink (flat_map mined_at.text (take l.one-index l.mined))
