use Rattle.std.proofs.Common.{◌+◌, arith}
use Rattle.std.proofs.lemmas.List.{get_or_read}
use Rattle.dmn_walk.proofs.CopySteps.{is_marked, copy_joins, copy_done}
use Rattle.dmn_walk.proofs.compaction.copy_node.Goals as goal

pub make-root-requires-clause-joins : goal.make-root-requires-clause-joins
make-root-requires-clause-joins g c =
    let marks = c.args.marks.now.items in
    let places = c.args.places.now.items in
    let n = c.node-node.result.now in
    let h = is_marked marks (c.args.number + 1) c.index.result.now (omega (arith, c.requires.marks.long)) c.index.ensures c.if-not-index.false in
    let l = get_or_read places n.left c.index-2.result.now (omega (arith, c.requires.copies.long, c.node-node.ensures.fork.left_lower)) c.index-2.ensures 0 in
    let r = get_or_read places n.right c.index-3.result.now (omega (arith, c.requires.copies.long, c.node-node.ensures.fork.right_lower)) c.index-3.ensures 0 in
    copy_joins c.requires.marks c.requires.copies h c.node-node.ensures c.in_ok-reserve.ensures.grows c.index-2.result.now c.index-3.result.now l r

pub returns : goal.returns
returns g c =
    let marks = c.args.marks.now.items in
    let places = c.args.places.now.items in
    let n = c.node-node.result.now in
    let h = is_marked marks (c.args.number + 1) c.index.result.now (omega (arith, c.requires.marks.long)) c.index.ensures c.if-not-index.false in
    let l = get_or_read places n.left c.index-2.result.now (omega (arith, c.requires.copies.long, c.node-node.ensures.fork.left_lower)) c.index-2.ensures 0 in
    let r = get_or_read places n.right c.index-3.result.now (omega (arith, c.requires.copies.long, c.node-node.ensures.fork.right_lower)) c.index-3.ensures 0 in
    copy_done c.requires.marks c.requires.copies h c.node-node.ensures c.in_ok-reserve.ensures.grows c.index-2.result.now c.index-3.result.now l r c.make-root.new.self.nodes.items c.make-root.result.0 c.make-root.ensures.made c.make-root.ensures.height c.keep-2.new.list.items c.in_ok-keep-2.ensures
