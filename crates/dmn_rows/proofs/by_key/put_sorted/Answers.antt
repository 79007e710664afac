use Rattle.std.proofs.Common.{◌∙◌, sym, ap}
use Rattle.dmn_rows.specs.Sorted.{place_in, passes_at}
use Rattle.dmn_rows.proofs.Sorted.{put_set, put_insert, Ascends-put_sorted}
use Rattle.dmn_rows.proofs.by_key.put_sorted.Goals as goal

pub returns-then-has_key_at-clause-put : goal.returns-then-has_key_at-clause-put
returns-then-has_key_at-clause-put g c =
    put_set g.K.Ord.cmp g.V.ByKey.key_of g.V.ByKey.has g.met.V.ByKey.is_key c.args.value c.args.values.now.items c.place_of-at.result c.requires
    (c.place_of-at.ensures.place ∙ ap (λ k. place_in g.K.Ord.cmp g.V.ByKey.key_of k c.deref.result.now) c.key.ensures ∙ ap (place_in g.K.Ord.cmp g.V.ByKey.key_of (g.V.ByKey.key_of c.args.value)) c.deref.ensures.value)
    (sym (c.has_key_at.ensures.has ∙ ap (λ k. passes_at (g.V.ByKey.has k) c.deref-2.result.now c.place_of-at.result) c.key-2.ensures ∙ ap (λ list. passes_at (g.V.ByKey.has (g.V.ByKey.key_of c.args.value)) list c.place_of-at.result) c.deref-2.ensures.value) ∙ c.if-has_key_at.true)

pub returns-in_ok-insert-clause-put : goal.returns-in_ok-insert-clause-put
returns-in_ok-insert-clause-put g c =
    c.in_ok-insert.ensures.items ∙ put_insert g.K.Ord.cmp g.V.ByKey.key_of g.V.ByKey.has g.met.V.ByKey.is_key c.args.value c.args.values.now.items c.place_of-at.result c.requires
    (c.place_of-at.ensures.place ∙ ap (λ k. place_in g.K.Ord.cmp g.V.ByKey.key_of k c.deref.result.now) c.key.ensures ∙ ap (place_in g.K.Ord.cmp g.V.ByKey.key_of (g.V.ByKey.key_of c.args.value)) c.deref.ensures.value)
    (sym (c.has_key_at.ensures.has ∙ ap (λ k. passes_at (g.V.ByKey.has k) c.deref-2.result.now c.place_of-at.result) c.key-2.ensures ∙ ap (λ list. passes_at (g.V.ByKey.has (g.V.ByKey.key_of c.args.value)) list c.place_of-at.result) c.deref-2.ensures.value) ∙ c.if-has_key_at.false)

pub returns-then-has_key_at-clause-ascends : goal.returns-then-has_key_at-clause-ascends
returns-then-has_key_at-clause-ascends g c =
    rw (returns-then-has_key_at-clause-put g c) (Ascends-put_sorted g.K.Ord.cmp g.V.ByKey.key_of g.V.ByKey.has g.met.V.ByKey.is_key c.args.value c.args.values.now.items c.requires)

pub returns-in_ok-insert-clause-ascends : goal.returns-in_ok-insert-clause-ascends
returns-in_ok-insert-clause-ascends g c =
    rw (returns-in_ok-insert-clause-put g c) (Ascends-put_sorted g.K.Ord.cmp g.V.ByKey.key_of g.V.ByKey.has g.met.V.ByKey.is_key c.args.value c.args.values.now.items c.requires)
