use Rattle.std.proofs.Common.{cond, ◌∙◌, sym, ap}
use Rattle.dmn_rows.specs.Sorted.{place_in, passes_at, put_sorted}
use Rattle.dmn_rows.proofs.Sorted.{was_there, put_insert, Ascends-put_sorted}
use Rattle.dmn_rows.proofs.by_key.add_sorted.Goals as goal

pub returns-then-has_key_at-clause-add : goal.returns-then-has_key_at-clause-add
returns-then-has_key_at-clause-add g c =
    let list = c.args.values.now.items in
    let put = put_sorted g.K.Ord.cmp g.V.ByKey.key_of c.args.value list in
    let has = c.has_key_at.ensures.has ∙ ap (λ k. passes_at (g.V.ByKey.has k) c.deref-2.result.now c.place_of-at.result) c.key-2.ensures ∙ ap (λ list. passes_at (g.V.ByKey.has (g.V.ByKey.key_of c.args.value)) list c.place_of-at.result) c.deref-2.ensures.value in
    let was = was_there g.K.Ord.cmp g.V.ByKey.key_of g.V.ByKey.has g.met.V.ByKey.is_key (g.V.ByKey.key_of c.args.value) c.args.values.now.items c.place_of-at.result c.requires (c.place_of-at.ensures.place ∙ ap (λ k. place_in g.K.Ord.cmp g.V.ByKey.key_of k c.deref.result.now) c.key.ensures ∙ ap (place_in g.K.Ord.cmp g.V.ByKey.key_of (g.V.ByKey.key_of c.args.value)) c.deref.ensures.value) in
    sym (ap (λ b. cond b list put) (sym (has ∙ was) ∙ c.if-has_key_at.true))

pub returns-in_ok-insert-clause-add : goal.returns-in_ok-insert-clause-add
returns-in_ok-insert-clause-add g c =
    let list = c.args.values.now.items in
    let put = put_sorted g.K.Ord.cmp g.V.ByKey.key_of c.args.value list in
    let has = c.has_key_at.ensures.has ∙ ap (λ k. passes_at (g.V.ByKey.has k) c.deref-2.result.now c.place_of-at.result) c.key-2.ensures ∙ ap (λ list. passes_at (g.V.ByKey.has (g.V.ByKey.key_of c.args.value)) list c.place_of-at.result) c.deref-2.ensures.value in
    let was = was_there g.K.Ord.cmp g.V.ByKey.key_of g.V.ByKey.has g.met.V.ByKey.is_key (g.V.ByKey.key_of c.args.value) c.args.values.now.items c.place_of-at.result c.requires (c.place_of-at.ensures.place ∙ ap (λ k. place_in g.K.Ord.cmp g.V.ByKey.key_of k c.deref.result.now) c.key.ensures ∙ ap (place_in g.K.Ord.cmp g.V.ByKey.key_of (g.V.ByKey.key_of c.args.value)) c.deref.ensures.value) in
    c.in_ok-insert.ensures.items ∙ put_insert g.K.Ord.cmp g.V.ByKey.key_of g.V.ByKey.has g.met.V.ByKey.is_key c.args.value list c.place_of-at.result c.requires
    (c.place_of-at.ensures.place ∙ ap (λ k. place_in g.K.Ord.cmp g.V.ByKey.key_of k c.deref.result.now) c.key.ensures ∙ ap (place_in g.K.Ord.cmp g.V.ByKey.key_of (g.V.ByKey.key_of c.args.value)) c.deref.ensures.value)
    (sym has ∙ c.if-has_key_at.false)
    ∙ sym (ap (λ b. cond b list put) (sym (has ∙ was) ∙ c.if-has_key_at.false))

pub returns-in_ok-insert-clause-ascends : goal.returns-in_ok-insert-clause-ascends
returns-in_ok-insert-clause-ascends g c =
    let list = c.args.values.now.items in
    let put = put_sorted g.K.Ord.cmp g.V.ByKey.key_of c.args.value list in
    let has = c.has_key_at.ensures.has ∙ ap (λ k. passes_at (g.V.ByKey.has k) c.deref-2.result.now c.place_of-at.result) c.key-2.ensures ∙ ap (λ list. passes_at (g.V.ByKey.has (g.V.ByKey.key_of c.args.value)) list c.place_of-at.result) c.deref-2.ensures.value in
    let was = was_there g.K.Ord.cmp g.V.ByKey.key_of g.V.ByKey.has g.met.V.ByKey.is_key (g.V.ByKey.key_of c.args.value) c.args.values.now.items c.place_of-at.result c.requires (c.place_of-at.ensures.place ∙ ap (λ k. place_in g.K.Ord.cmp g.V.ByKey.key_of k c.deref.result.now) c.key.ensures ∙ ap (place_in g.K.Ord.cmp g.V.ByKey.key_of (g.V.ByKey.key_of c.args.value)) c.deref.ensures.value) in
    rw (c.in_ok-insert.ensures.items ∙ put_insert g.K.Ord.cmp g.V.ByKey.key_of g.V.ByKey.has g.met.V.ByKey.is_key c.args.value list c.place_of-at.result c.requires
    (c.place_of-at.ensures.place ∙ ap (λ k. place_in g.K.Ord.cmp g.V.ByKey.key_of k c.deref.result.now) c.key.ensures ∙ ap (place_in g.K.Ord.cmp g.V.ByKey.key_of (g.V.ByKey.key_of c.args.value)) c.deref.ensures.value)
    (sym has ∙ c.if-has_key_at.false))
    (Ascends-put_sorted g.K.Ord.cmp g.V.ByKey.key_of g.V.ByKey.has g.met.V.ByKey.is_key c.args.value list c.requires)
