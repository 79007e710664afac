use Rattle.std.proofs.Common.{length, sym, ap, arith, rules}
use Rattle.std.proofs.lemmas.Option.{slice_get_within}
use Rattle.dmn_versions.specs.Trees.{reads}
use Rattle.dmn_versions.proofs.Bounds.{few_pairs}
use Rattle.dmn_walk.proofs.Cuts.{next_at}
use Rattle.dmn_walk.proofs.pages.PairsIterator.next.Goals as goal

pub overflow_add-self : goal.overflow_add-self
overflow_add-self g c =
    let page = c.args.self.now in
    let nodes = page.arena.now.nodes in
    omega (arith, slice_get_within (reads page.arena.now page.root) page.rank (c.in_ok-pair.pair.0.now, c.in_ok-pair.pair.1.now) (sym c.in_ok-pair.ensures), few_pairs g.K.Key.cmp g.K.Key.laws nodes.items page.root.0 c.requires, nodes.ok.0, nodes.ok.1, nodes.small)

pub returns-clause-steps : goal.returns-clause-steps
returns-clause-steps g c =
    let page = c.args.self.now in
    next_at (reads page.arena.now page.root) page.rank page.most (c.in_ok-pair.pair.0.now, c.in_ok-pair.pair.1.now) (sym c.in_ok-pair.ensures) (omega arith)

pub returns-clause-goes : goal.returns-clause-goes
returns-clause-goes g c =
    let shorter = ap length (returns-clause-steps g c) in
    search rules
