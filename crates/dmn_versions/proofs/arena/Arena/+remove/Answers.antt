use Rattle.std.proofs.Common.{sym, ap, ◌∙◌, arith}
use Rattle.dmn_versions.proofs.Steps.{open_height, find_at_left, find_at_middle, find_at_right}
use Rattle.dmn_versions.proofs.Change.{makes_as, makes_same, without_empty, changed_left, changed_left_done, changed_right, changed_right_done, without_order, without_at_left, without_at_middle, without_at_right, meets_here, same_left, same_right}
use Rattle.dmn_versions.proofs.arena.Arena.+remove.Goals as goal

pub returns-then-root-eq0-clause-made : goal.returns-then-root-eq0-clause-made
returns-then-root-eq0-clause-made g t c = makes_same c.requires.sound (without_empty g.K.Key.cmp c.args.self.now.nodes.items c.args.root.0 c.args.key.now c.if-root-eq0.true)

pub returns-then-left-node-clause-made : goal.returns-then-left-node-clause-made
returns-then-left-node-clause-made g t c =
    let o = c.node.ensures in
    same_left o g.K.Key.laws c.requires.sound c.args.key.now c.remove-left.ensures.made c.if-left-node.true (sym c.in-Less.ensures) (omega (arith, open_height o))

pub balance-requires-clause-joins : goal.balance-requires-clause-joins
balance-requires-clause-joins g t c =
    let o = c.node.ensures in
    let total = g.K.Key.laws in
    changed_left o c.remove-left.ensures.made (without_at_left o total c.requires.sound c.args.key.now (sym c.in-Less.ensures)) (without_order o total c.requires.sound c.args.key.now) (omega (arith, o.fork.balanced))

pub join-requires-clause-meets : goal.join-requires-clause-meets
join-requires-clause-meets g t c = meets_here c.node.ensures g.K.Key.laws c.requires.sound c.args.key.now (sym c.in-Equal.ensures)

pub returns-then-right-node-clause-made : goal.returns-then-right-node-clause-made
returns-then-right-node-clause-made g t c =
    let o = c.node.ensures in
    same_right o g.K.Key.laws c.requires.sound c.args.key.now c.remove-right.ensures.made c.if-right-node.true (sym c.in-Greater.ensures) (omega (arith, open_height o))

pub balance-requires-in-Greater-clause-joins : goal.balance-requires-in-Greater-clause-joins
balance-requires-in-Greater-clause-joins g t c =
    let o = c.node.ensures in
    let total = g.K.Key.laws in
    changed_right o c.remove-right.ensures.made (without_at_right o total c.requires.sound c.args.key.now (sym c.in-Greater.ensures)) (without_order o total c.requires.sound c.args.key.now) (omega (arith, o.fork.balanced))

pub returns-else-left-node-clause-made : goal.returns-else-left-node-clause-made
returns-else-left-node-clause-made g t c =
    let o = c.node.ensures in
    changed_left_done o c.remove-left.ensures.made c.balance.ensures.made (without_at_left o g.K.Key.laws c.requires.sound c.args.key.now (sym c.in-Less.ensures)) (omega (arith, open_height o))

pub returns-else-left-node-clause-absent : goal.returns-else-left-node-clause-absent
returns-else-left-node-clause-absent g t c none =
    let same = c.remove-left.ensures.absent (sym (find_at_left c.node.ensures g.K.Key.laws c.requires.sound c.args.key.now (sym c.in-Less.ensures)) ∙ none) in
    absurd (c.if-left-node.false (ap (λ r. r.0) same))

pub returns-in-Equal-clause-made : goal.returns-in-Equal-clause-made
returns-in-Equal-clause-made g t c =
    let o = c.node.ensures in
    makes_as c.join.ensures.made (sym (without_at_middle o g.K.Key.laws c.requires.sound c.args.key.now (sym c.in-Equal.ensures))) (omega (arith, open_height o))

pub returns-in-Equal-clause-absent : goal.returns-in-Equal-clause-absent
returns-in-Equal-clause-absent g t c none = cc (find_at_middle c.node.ensures g.K.Key.laws c.requires.sound c.args.key.now (sym c.in-Equal.ensures))

pub returns-else-right-node-clause-made : goal.returns-else-right-node-clause-made
returns-else-right-node-clause-made g t c =
    let o = c.node.ensures in
    changed_right_done o c.remove-right.ensures.made c.balance-in-Greater.ensures.made (without_at_right o g.K.Key.laws c.requires.sound c.args.key.now (sym c.in-Greater.ensures)) (omega (arith, open_height o))

pub returns-else-right-node-clause-absent : goal.returns-else-right-node-clause-absent
returns-else-right-node-clause-absent g t c none =
    let same = c.remove-right.ensures.absent (sym (find_at_right c.node.ensures g.K.Key.laws c.requires.sound c.args.key.now (sym c.in-Greater.ensures)) ∙ none) in
    absurd (c.if-right-node.false (ap (λ r. r.0) same))
