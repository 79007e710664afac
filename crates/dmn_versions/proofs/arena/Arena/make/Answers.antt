use Rattle.std.proofs.Common.{◌+◌, arith}
use Rattle.dmn_versions.proofs.Bounds.{few_joined}
use Rattle.dmn_versions.proofs.Grow.{made, made_height}
use Rattle.dmn_versions.proofs.arena.Arena.make.Goals as goal

pub overflow_add-size : goal.overflow_add-size
overflow_add-size g c =
    let nodes = c.args.self.now.nodes in
    let few = few_joined g.K.Key.cmp g.K.Key.laws 1 nodes.items c.args.left.0 (c.args.key, c.args.value) c.args.right.0 c.requires.joins in
    omega (arith, few, nodes.ok.0, nodes.ok.1, nodes.small)

pub overflow_add-size-2 : goal.overflow_add-size-2
overflow_add-size-2 g c =
    let nodes = c.args.self.now.nodes in
    let few = few_joined g.K.Key.cmp g.K.Key.laws 1 nodes.items c.args.left.0 (c.args.key, c.args.value) c.args.right.0 c.requires.joins in
    omega (arith, few, nodes.ok.0, nodes.ok.1, nodes.small)

pub returns-clause-made : goal.returns-clause-made
returns-clause-made g c =
    made c.args.self.now.nodes.items c.push.new.self.items (record { key = c.args.key; value = c.args.value; left = c.args.left.0; right = c.args.right.0; height = c.max-height.result + 1; size = c.size.result + c.size-2.result + 1 }) c.len.result c.requires.joins (omega arith) (omega arith) c.in-Ok.ensures.items (omega (arith, c.len.ensures, c.push.new.self.ok.0))

pub returns-clause-height : goal.returns-clause-height
returns-clause-height g c =
    made_height c.args.self.now.nodes.items c.push.new.self.items (record { key = c.args.key; value = c.args.value; left = c.args.left.0; right = c.args.right.0; height = c.max-height.result + 1; size = c.size.result + c.size-2.result + 1 }) c.len.result c.in-Ok.ensures.items (omega (arith, c.len.ensures, c.push.new.self.ok.0))
