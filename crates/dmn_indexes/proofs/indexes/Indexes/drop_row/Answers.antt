use Rattle.std.proofs.Common.{ap, ◌∙◌, arith}
use Rattle.dmn_rows.proofs.Distinct.{HasDistinctKeys-filter}
use Rattle.dmn_rows.specs.Rows.{drop_row}
use Rattle.dmn_indexes.specs.Keys.{owner_laws, operator_laws, service_laws, pay_laws, unconfirmed_laws, owner_row_key, operator_row_key, service_row_key, collateral_row_key, pay_row_key, unconfirmed_row_key}
use Rattle.dmn_indexes.specs.Version.{rows_in, values}
use Rattle.dmn_indexes.proofs.Whole.{whole_of, rows_ascend, rows_dropped, row_found, index_dropped, values-by_hash, kept_by, bounded_by}
use Rattle.dmn_versions.specs.Laws.{point_laws}
use Rattle.dmn_versions.proofs.Grow.{grows_more, grows_none}
use Rattle.dmn_indexes.proofs.indexes.Indexes.drop_row.Goals as goal

pub returns-clause-whole : goal.returns-clause-whole
returns-clause-whole c =
    let hash = c.args.hash.now in
    let whole = c.requires.whole in
    let ascending = rows_ascend whole in
    let found = c.copied-before.ensures ∙ c.get.ensures ∙ row_found hash whole in
    whole_of {rows = drop_row hash (rows_in c.args.self.now c.args.version)} (record {
      sound = c.remove-rows.ensures.made.sound;
      reads = c.remove-rows.ensures.made.reads ∙ rows_dropped hash whole;
      distinct = HasDistinctKeys-filter _ (rows_in c.args.self.now c.args.version) whole.distinct;
      owner = index_dropped owner_laws owner_row_key hash ascending whole.distinct found whole.owner c.drop_in-owner.ensures;
      operator = index_dropped operator_laws operator_row_key hash ascending whole.distinct found whole.operator c.drop_in-operator.ensures;
      service = index_dropped service_laws service_row_key hash ascending whole.distinct found whole.service c.drop_in-service.ensures;
      collateral = index_dropped point_laws collateral_row_key hash ascending whole.distinct found whole.collateral c.drop_in-collateral.ensures;
      payment = index_dropped pay_laws pay_row_key hash ascending whole.distinct found whole.payment c.drop_in-payment.ensures;
      unconfirmed = index_dropped unconfirmed_laws unconfirmed_row_key hash ascending whole.distinct found whole.unconfirmed c.drop_in-unconfirmed.ensures;
      outputs = whole.outputs;
    })

pub returns-clause-rows : goal.returns-clause-rows
returns-clause-rows c =
    let hash = c.args.hash.now in
    ap values (c.remove-rows.ensures.made.reads ∙ rows_dropped hash c.requires.whole) ∙ values-by_hash (drop_row hash (rows_in c.args.self.now c.args.version))

pub returns-clause-bounded : goal.returns-clause-bounded
returns-clause-bounded c few = bounded_by {v = c.args.version} c.requires.whole few (record {
  rows = grows_more c.remove-rows.ensures.made.grows (omega arith);
  owner = c.drop_in-owner.ensures.grows;
  operator = c.drop_in-operator.ensures.grows;
  service = c.drop_in-service.ensures.grows;
  collateral = c.drop_in-collateral.ensures.grows;
  payment = c.drop_in-payment.ensures.grows;
  unconfirmed = c.drop_in-unconfirmed.ensures.grows;
  outputs = grows_more (grows_none c.args.self.now.outputs.nodes.items) (omega arith);
})

pub returns-clause-kept : goal.returns-clause-kept
returns-clause-kept c = kept_by {w = c.args.version} (record {
  rows = grows_more c.remove-rows.ensures.made.grows (omega arith);
  owner = c.drop_in-owner.ensures.grows;
  operator = c.drop_in-operator.ensures.grows;
  service = c.drop_in-service.ensures.grows;
  collateral = c.drop_in-collateral.ensures.grows;
  payment = c.drop_in-payment.ensures.grows;
  unconfirmed = c.drop_in-unconfirmed.ensures.grows;
  outputs = grows_more (grows_none c.args.self.now.outputs.nodes.items) (omega arith);
})
