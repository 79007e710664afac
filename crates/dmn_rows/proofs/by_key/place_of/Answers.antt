use Rattle.std.proofs.Common.{rules}
use Rattle.std.specs.Ordering.{is_lt}
use Rattle.std.proofs.lemmas.List.Sorted.{IsPartitionPoint-from_clause}
use Rattle.dmn_rows.proofs.Sorted.{parted, place_is}
use Rattle.dmn_rows.proofs.by_key.place_of.Goals as goal

pub returns-clause-place : goal.returns-clause-place
returns-clause-place g c =
    let cmp = g.K.Ord.cmp in
    let key = g.V.ByKey.key_of in
    let is = g.met.V.ByKey.is_key in
    let point = IsPartitionPoint-from_clause (λ v. is_lt (cmp (key v) c.args.key.now)) c.args.values.now _ c.partition_point.ensures.partitioned (parted cmp key _ is c.args.key.now c.args.values.now c.requires) (λ a r q k. search rules) in
    place_is cmp key _ is c.args.key.now c.args.values.now c.partition_point.result c.partition_point.ensures.bound point
