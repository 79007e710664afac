use Rattle.std.proofs.Common.{◌≡◌, true, false, refl, sym}
use Rattle.std.proofs.lemmas.List.{append-nil}
use Rattle.dmn_walk.proofs.WalkSteps.{went_less, went_greater, went_equal}
use Rattle.dmn_walk.proofs.walk.take_both.Goals as goal

pub returns-in_ok-push-in-Less-clause-goes : goal.returns-in_ok-push-in-Less-clause-goes
returns-in_ok-push-in-Less-clause-goes g c =
    went_less g.K.Key.cmp g.V.PartialEq.eq c.args.arena.now.nodes.items g.K.Key.laws c.args.walk.now
    (record { before = c.advance.new.cursor; after = c.args.walk.now.after; gone = c.push.new.self; put = c.args.walk.now.put })
    c.args.old c.args.new c.requires.before c.requires.after c.requires.old_first c.requires.new_first (sym c.in-Less.ensures) c.advance.ensures refl c.in_ok-push-in-Less.ensures.items refl

pub returns-in_ok-push-in-Greater-clause-goes : goal.returns-in_ok-push-in-Greater-clause-goes
returns-in_ok-push-in-Greater-clause-goes g c =
    went_greater g.K.Key.cmp g.V.PartialEq.eq c.args.arena.now.nodes.items g.K.Key.laws c.args.walk.now
    (record { before = c.args.walk.now.before; after = c.advance-in-Greater.new.cursor; gone = c.args.walk.now.gone; put = c.push-in-Greater.new.self })
    c.args.old c.args.new c.requires.before c.requires.after c.requires.old_first c.requires.new_first (sym c.in-Greater.ensures) c.advance-in-Greater.ensures refl refl c.in_ok-push-in-Greater.ensures.items

pub returns-then-eq-clause-goes : goal.returns-then-eq-clause-goes
returns-then-eq-clause-goes g c =
    let same : g.V.PartialEq.eq c.args.old.1 c.args.new.1 ≡ true = cc in
    went_equal g.K.Key.cmp g.V.PartialEq.eq c.args.arena.now.nodes.items g.K.Key.laws c.args.walk.now
    (record { before = c.advance-then-eq.new.cursor; after = c.advance-then-eq-2.new.cursor; gone = c.args.walk.now.gone; put = c.args.walk.now.put })
    c.args.old c.args.new c.requires.before c.requires.after c.requires.old_first c.requires.new_first (sym c.in-Equal.ensures) c.advance-then-eq.ensures c.advance-then-eq-2.ensures refl
    (rw same (sym (append-nil c.args.walk.now.put.items)))

pub returns-in_ok-push-in-Equal-clause-goes : goal.returns-in_ok-push-in-Equal-clause-goes
returns-in_ok-push-in-Equal-clause-goes g c =
    let differs : g.V.PartialEq.eq c.args.old.1 c.args.new.1 ≡ false = cc in
    went_equal g.K.Key.cmp g.V.PartialEq.eq c.args.arena.now.nodes.items g.K.Key.laws c.args.walk.now
    (record { before = c.advance-in-Equal.new.cursor; after = c.advance-in-Equal-2.new.cursor; gone = c.args.walk.now.gone; put = c.push-in-Equal.new.self })
    c.args.old c.args.new c.requires.before c.requires.after c.requires.old_first c.requires.new_first (sym c.in-Equal.ensures) c.advance-in-Equal.ensures c.advance-in-Equal-2.ensures refl
    (rw differs c.in_ok-push-in-Equal.ensures.items)
