use Rattle.std.proofs.Common.{sym, ap, ◌∙◌}
use Rattle.std.specs.FinMap.{find}
use Rattle.dmn_versions.proofs.Steps.{empty_pairs, find_at_left, find_at_middle, find_at_right}
use Rattle.dmn_versions.proofs.arena.Arena.+get.Goals as goal

pub returns-then-root-eq0 : goal.returns-then-root-eq0
returns-then-root-eq0 g t c = sym (ap (find g.K.Key.cmp c.args.key.now) (empty_pairs c.args.self.now.nodes.items c.args.root.0 c.if-root-eq0.true))

pub returns-in-Less : goal.returns-in-Less
returns-in-Less g t c = c.get.ensures ∙ sym (find_at_left c.node-node.ensures g.K.Key.laws c.requires _ (sym c.in-Less.ensures))

pub returns-in-Equal : goal.returns-in-Equal
returns-in-Equal g t c = sym (find_at_middle c.node-node.ensures g.K.Key.laws c.requires _ (sym c.in-Equal.ensures))

pub returns-in-Greater : goal.returns-in-Greater
returns-in-Greater g t c = c.get-in-Greater.ensures ∙ sym (find_at_right c.node-node.ensures g.K.Key.laws c.requires _ (sym c.in-Greater.ensures))
