use Rattle.std.proofs.Common.{refl}
use Rattle.dmn_walk.proofs.WalkSteps.{skipped}
use Rattle.dmn_walk.proofs.walk.skip.Goals as goal

pub returns-clause-goes : goal.returns-clause-goes
returns-clause-goes g c =
    let walk = c.args.walk.now in
    skipped g.K.Key.cmp g.V.PartialEq.eq c.args.arena.now.nodes.items g.K.Key.laws g.met.V.Eq.laws.refl walk
    (record { before = record { pending = 0; spine = walk.before.spine }; after = record { pending = 0; spine = walk.after.spine }; gone = walk.gone; put = walk.put })
    c.requires.before c.requires.after c.requires.same refl refl refl refl refl refl
