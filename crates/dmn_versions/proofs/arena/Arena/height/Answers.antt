use Rattle.std.proofs.Common.{sym, arith}
use Rattle.dmn_versions.proofs.Bounds.{few_pairs, low, low_few}
use Rattle.dmn_versions.proofs.Steps.{empty_height}
use Rattle.dmn_versions.proofs.arena.Arena.height.Goals as goal

pub returns-then-root-eq0-clause-value : goal.returns-then-root-eq0-clause-value
returns-then-root-eq0-clause-value g c = sym (empty_height c.args.self.now.nodes.items c.args.root.0 c.if-root-eq0.true)

pub returns-else-root-eq0-clause-low : goal.returns-else-root-eq0-clause-low
returns-else-root-eq0-clause-low g c =
    let nodes = c.args.self.now.nodes in
    let few = few_pairs g.K.Key.cmp g.K.Key.laws nodes.items c.args.root.0 c.requires in
    let h = low _ c.requires.shaped (omega (arith, few, nodes.ok.0, nodes.ok.1, nodes.small)) in
    omega (arith, rw c.node.ensures.is at h, c.node.ensures.fork.height_true)

pub returns-else-root-eq0-clause-low_with_few : goal.returns-else-root-eq0-clause-low_with_few
returns-else-root-eq0-clause-low_with_few g c few =
    let h = low_few _ c.requires.shaped few in
    omega (arith, rw c.node.ensures.is at h, c.node.ensures.fork.height_true)
