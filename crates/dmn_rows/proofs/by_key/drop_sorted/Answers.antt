use Rattle.std.proofs.Common.{◌∙◌, sym, ap}
use Rattle.dmn_rows.specs.Sorted.{place_in, passes_at}
use Rattle.dmn_rows.proofs.Sorted.{was_there, dropped, not_dropped, Ascends-filter}
use Rattle.dmn_rows.proofs.by_key.drop_sorted.Goals as goal

pub returns-then-was-clause-was : goal.returns-then-was-clause-was
returns-then-was-clause-was g c =
    c.has_key_at-was.ensures.has ∙ ap (λ list. passes_at (g.V.ByKey.has c.args.key.now) list c.place_of-at.result) c.deref-2.ensures.value
    ∙ was_there g.K.Ord.cmp g.V.ByKey.key_of g.V.ByKey.has g.met.V.ByKey.is_key c.args.key.now c.args.values.now.items c.place_of-at.result c.requires (c.place_of-at.ensures.place ∙ ap (place_in g.K.Ord.cmp g.V.ByKey.key_of c.args.key.now) c.deref.ensures.value)

pub returns-else-was-clause-was : goal.returns-else-was-clause-was
returns-else-was-clause-was g c =
    c.has_key_at-was.ensures.has ∙ ap (λ list. passes_at (g.V.ByKey.has c.args.key.now) list c.place_of-at.result) c.deref-2.ensures.value
    ∙ was_there g.K.Ord.cmp g.V.ByKey.key_of g.V.ByKey.has g.met.V.ByKey.is_key c.args.key.now c.args.values.now.items c.place_of-at.result c.requires (c.place_of-at.ensures.place ∙ ap (place_in g.K.Ord.cmp g.V.ByKey.key_of c.args.key.now) c.deref.ensures.value)

pub returns-then-was-clause-rest : goal.returns-then-was-clause-rest
returns-then-was-clause-rest g c =
    c.remove.ensures.items ∙ dropped g.K.Ord.cmp g.V.ByKey.key_of g.V.ByKey.has g.met.V.ByKey.is_key c.args.key.now c.args.values.now.items c.place_of-at.result c.requires
    (c.place_of-at.ensures.place ∙ ap (place_in g.K.Ord.cmp g.V.ByKey.key_of c.args.key.now) c.deref.ensures.value)
    (sym (c.has_key_at-was.ensures.has ∙ ap (λ list. passes_at (g.V.ByKey.has c.args.key.now) list c.place_of-at.result) c.deref-2.ensures.value) ∙ c.if-was.true)

pub returns-else-was-clause-rest : goal.returns-else-was-clause-rest
returns-else-was-clause-rest g c =
    not_dropped g.K.Ord.cmp g.V.ByKey.key_of g.V.ByKey.has g.met.V.ByKey.is_key c.args.key.now c.args.values.now.items c.place_of-at.result c.requires
    (c.place_of-at.ensures.place ∙ ap (place_in g.K.Ord.cmp g.V.ByKey.key_of c.args.key.now) c.deref.ensures.value)
    (sym (c.has_key_at-was.ensures.has ∙ ap (λ list. passes_at (g.V.ByKey.has c.args.key.now) list c.place_of-at.result) c.deref-2.ensures.value) ∙ c.if-was.false)

pub returns-then-was-clause-ascends : goal.returns-then-was-clause-ascends
returns-then-was-clause-ascends g c =
    rw (returns-then-was-clause-rest g c) (Ascends-filter g.K.Ord.cmp g.V.ByKey.key_of g.V.ByKey.has g.met.V.ByKey.is_key _ c.args.values.now.items c.requires)
