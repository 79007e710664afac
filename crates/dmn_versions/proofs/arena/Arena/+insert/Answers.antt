use Rattle.std.proofs.Common.{sym, arith}
use Rattle.dmn_versions.proofs.Steps.{open_height}
use Rattle.dmn_versions.proofs.Change.{makes_as, joins_empty, put_empty, changed_left, changed_left_done, changed_right, changed_right_done, put_order, put_at_left, put_at_middle, put_at_right, joins_here}
use Rattle.dmn_versions.proofs.arena.Arena.+insert.Goals as goal

pub make-requires-clause-joins : goal.make-requires-clause-joins
make-requires-clause-joins g t c = joins_empty c.args.self.now.nodes.items c.args.root.0 (c.args.key, c.args.value) c.if-root-eq0.true c.requires.sound

pub returns-then-root-eq0-clause-made : goal.returns-then-root-eq0-clause-made
returns-then-root-eq0-clause-made g t c =
    makes_as c.make.ensures.made (put_empty g.K.Key.cmp c.args.self.now.nodes.items c.args.root.0 c.args.key c.args.value c.if-root-eq0.true) (omega arith)

pub balance-requires-clause-joins : goal.balance-requires-clause-joins
balance-requires-clause-joins g t c =
    let o = c.node.ensures in
    let total = g.K.Key.laws in
    changed_left o c.insert-left.ensures.made (put_at_left o total c.requires.sound c.args.key c.args.value (sym c.in-Less.ensures)) (put_order o total c.requires.sound c.args.key c.args.value) (omega (arith, o.fork.balanced))

pub make-requires-in-Equal-clause-joins : goal.make-requires-in-Equal-clause-joins
make-requires-in-Equal-clause-joins g t c = joins_here c.node.ensures g.K.Key.laws c.requires.sound c.args.key c.args.value (sym c.in-Equal.ensures)

pub balance-requires-in-Greater-clause-joins : goal.balance-requires-in-Greater-clause-joins
balance-requires-in-Greater-clause-joins g t c =
    let o = c.node.ensures in
    let total = g.K.Key.laws in
    changed_right o c.insert-right.ensures.made (put_at_right o total c.requires.sound c.args.key c.args.value (sym c.in-Greater.ensures)) (put_order o total c.requires.sound c.args.key c.args.value) (omega (arith, o.fork.balanced))

pub returns-in-Less-clause-made : goal.returns-in-Less-clause-made
returns-in-Less-clause-made g t c =
    let o = c.node.ensures in
    changed_left_done o c.insert-left.ensures.made c.balance.ensures.made (put_at_left o g.K.Key.laws c.requires.sound c.args.key c.args.value (sym c.in-Less.ensures)) (omega (arith, open_height o))

pub returns-in-Equal-clause-made : goal.returns-in-Equal-clause-made
returns-in-Equal-clause-made g t c =
    makes_as c.make-in-Equal.ensures.made (sym (put_at_middle c.node.ensures g.K.Key.laws c.requires.sound c.args.key c.args.value (sym c.in-Equal.ensures))) (omega arith)

pub returns-in-Greater-clause-made : goal.returns-in-Greater-clause-made
returns-in-Greater-clause-made g t c =
    let o = c.node.ensures in
    changed_right_done o c.insert-right.ensures.made c.balance-in-Greater.ensures.made (put_at_right o g.K.Key.laws c.requires.sound c.args.key c.args.value (sym c.in-Greater.ensures)) (omega (arith, open_height o))
