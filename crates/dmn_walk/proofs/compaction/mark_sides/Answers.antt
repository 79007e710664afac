use Rattle.std.proofs.Common.{arith}
use Rattle.dmn_walk.proofs.CopySteps.{is_marked, marked_sides}
use Rattle.dmn_walk.proofs.compaction.mark_sides.Goals as goal

pub returns-then-index-clause-marks : goal.returns-then-index-clause-marks
returns-then-index-clause-marks g c =
    let marks = c.args.marks.now.items in
    marked_sides marks c.args.number c.node-node.result.now c.requires.marks (is_marked marks c.args.number c.index.result.now (omega (arith, c.requires.marks.long)) c.index.ensures c.if-index.true) c.requires.some c.node-node.ensures
