use Rattle.std.proofs.Common.{sym, ◌∙◌}
use Rattle.dmn_merkle.proofs.Judged.{leaf_folds, other_leaf}
use Rattle.dmn_merkle.proofs.branch.fold_from.Goals as goal

pub returns-then-eq : goal.returns-then-eq
returns-then-eq c = leaf_folds c.args.hashes.now c.args.id.now _ c.fold.result c.requires (sym c.eq.ensures ∙ c.if-eq.true) c.fold.ensures

pub returns-else-eq : goal.returns-else-eq
returns-else-eq c = other_leaf c.args.hashes.now c.args.id.now _ c.requires (sym c.eq.ensures ∙ c.if-eq.false)
