use Rattle.std.proofs.Common.{length, get_or, arith, ap}
use Rattle.std.proofs.lemmas.List.{get_or_default, length_push}
use Rattle.dmn_versions.specs.declared.node.Root.{Root}
use Rattle.dmn_walk.proofs.CopySteps.{moves_push, moved_root}
use Rattle.dmn_walk.proofs.compaction.compact.Goals as goal

pub loop-root-preserved : goal.loop-root-preserved
loop-root-preserved g c =
    let old = c.args.arena.now.nodes.items in
    let new = c.in_ok-new.new.nodes.items in
    let roots = c.args.roots.now in
    let i = c.loop-root.root-index in
    let none : Root = record { 0 = 0 } in
    let root : Root = get_or roots i none in
    let to : Root = record { 0 = c.index.result.now } in
    let in_range = c.loop-root-test.true in
    let copied = moved_root g.K.Key.cmp old new c.in_ok-marks.marks.items c.in_ok-new.places.items root.0 c.index.result.now c.in_ok-new.ensures (c.in_ok-marks.ensures.roots i none in_range) (c.requires i none in_range).named c.index.ensures in
    let each = moves_push g.K.Key.cmp old new roots c.loop-root.moved.items i root to in_range (get_or_default roots i none root in_range) c.loop-root.invariant.0 c.loop-root.invariant.1 copied in
    (omega (arith, ap length c.in_ok-keep.ensures, length_push c.loop-root.moved.items to, c.loop-root.invariant.0), rw c.in_ok-keep.ensures each)
