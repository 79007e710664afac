use Rattle.std.proofs.Common.{take}
use Rattle.dmn_outside.specs.Disk.{pick}
use Rattle.dmn_outside.specs.Stored.{begin, begun_of, replayed}
use Rattle.dmn_outside.specs.Picked.{Follows}
use Rattle.dmn_outside.proofs.picked.picked_text.Given as goal

abbrev pub invariant-loop-done : goal.invariant-loop-done
invariant-loop-done l = Follows l.how (pick l.file (replayed (begin (begun_of l.files)) (take l.done-index l.changes))) l.pair.reads.items l.pair.image.items
