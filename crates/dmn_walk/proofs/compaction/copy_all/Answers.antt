use Rattle.std.proofs.Common.{◌≡◌, length, arith}
use Rattle.dmn_walk.proofs.CopySteps.{copies_none}
use Rattle.dmn_walk.proofs.compaction.copy_all.Goals as goal

pub loop-number-init : goal.loop-number-init
loop-number-init g c = copies_none g.K.Key.cmp c.args.arena.now.nodes.items c.new-new.result.nodes.items c.args.marks.now.items c.keep.new.list.items c.new-new.ensures (rw c.new-places.ensures.items at c.in_ok-keep.ensures)

pub returns : goal.returns
returns g c =
    let nodes = c.args.arena.now.nodes in
    let all : c.loop-number.number ≡ length nodes.items = omega (arith, nodes.ok.0) in
    rw all at c.loop-number.invariant
