use Rattle.std.proofs.Common.{◌∙◌, Some, sym, ap}
use Rattle.dmn_rows.proofs.Sorted.{found_there, not_found}
use Rattle.dmn_rows.proofs.by_key.find_sorted.Goals as goal

pub returns-then-has_key_at : goal.returns-then-has_key_at
returns-then-has_key_at g c =
    ap Some c.index-values-at.is ∙ found_there g.K.Ord.cmp g.V.ByKey.key_of g.V.ByKey.has g.met.V.ByKey.is_key c.args.key.now c.args.values.now c.place_of-at.result _ c.requires c.place_of-at.ensures.place (sym c.has_key_at.ensures.has ∙ c.if-has_key_at.true)

pub returns-else-has_key_at : goal.returns-else-has_key_at
returns-else-has_key_at g c =
    not_found g.K.Ord.cmp g.V.ByKey.key_of g.V.ByKey.has g.met.V.ByKey.is_key c.args.key.now c.args.values.now c.place_of-at.result c.requires c.place_of-at.ensures.place (sym c.has_key_at.ensures.has ∙ c.if-has_key_at.false)
