use Rattle.std.proofs.Common.{ap, ◌∙◌, arith}
use Rattle.dmn_rows.specs.Rows.{put_row}
use Rattle.dmn_indexes.specs.Keys.{owner_laws, operator_laws, service_laws, pay_laws, unconfirmed_laws, owner_row_key, operator_row_key, service_row_key, collateral_row_key, pay_row_key, unconfirmed_row_key}
use Rattle.dmn_indexes.specs.Version.{rows_in, values}
use Rattle.dmn_indexes.proofs.Whole.{whole_of, rows_ascend, rows_put, row_found, index_put, values-by_hash, kept_by, bounded_by}
use Rattle.dmn_versions.specs.Laws.{point_laws}
use Rattle.dmn_versions.proofs.Grow.{grows_more, grows_none}
use Rattle.dmn_indexes.proofs.indexes.Indexes.put_row.Goals as goal

pub returns-clause-whole : goal.returns-clause-whole
returns-clause-whole c =
    let row = c.args.row.now in
    let whole = c.requires.whole in
    let ascending = rows_ascend whole in
    let found = c.copied-before.ensures ∙ c.get.ensures ∙ row_found row.hash whole in
    whole_of {rows = put_row row (rows_in c.args.self.now c.args.version)} (record {
      sound = c.insert-rows.ensures.made.sound;
      reads = c.insert-rows.ensures.made.reads ∙ rows_put row whole;
      distinct = c.requires.distinct;
      owner = index_put owner_laws owner_row_key row ascending whole.distinct c.requires.distinct found whole.owner c.put_in-owner.ensures;
      operator = index_put operator_laws operator_row_key row ascending whole.distinct c.requires.distinct found whole.operator c.put_in-operator.ensures;
      service = index_put service_laws service_row_key row ascending whole.distinct c.requires.distinct found whole.service c.put_in-service.ensures;
      collateral = index_put point_laws collateral_row_key row ascending whole.distinct c.requires.distinct found whole.collateral c.put_in-collateral.ensures;
      payment = index_put pay_laws pay_row_key row ascending whole.distinct c.requires.distinct found whole.payment c.put_in-payment.ensures;
      unconfirmed = index_put unconfirmed_laws unconfirmed_row_key row ascending whole.distinct c.requires.distinct found whole.unconfirmed c.put_in-unconfirmed.ensures;
      outputs = whole.outputs;
    })

pub returns-clause-rows : goal.returns-clause-rows
returns-clause-rows c =
    let row = c.args.row.now in
    ap values (c.insert-rows.ensures.made.reads ∙ rows_put row c.requires.whole) ∙ values-by_hash (put_row row (rows_in c.args.self.now c.args.version))

pub returns-clause-bounded : goal.returns-clause-bounded
returns-clause-bounded c few = bounded_by {v = c.args.version} c.requires.whole few (record {
  rows = grows_more c.insert-rows.ensures.made.grows (omega arith);
  owner = c.put_in-owner.ensures.grows;
  operator = c.put_in-operator.ensures.grows;
  service = c.put_in-service.ensures.grows;
  collateral = c.put_in-collateral.ensures.grows;
  payment = c.put_in-payment.ensures.grows;
  unconfirmed = c.put_in-unconfirmed.ensures.grows;
  outputs = grows_more (grows_none c.args.self.now.outputs.nodes.items) (omega arith);
})

pub returns-clause-kept : goal.returns-clause-kept
returns-clause-kept c = kept_by {w = c.args.version} (record {
  rows = grows_more c.insert-rows.ensures.made.grows (omega arith);
  owner = c.put_in-owner.ensures.grows;
  operator = c.put_in-operator.ensures.grows;
  service = c.put_in-service.ensures.grows;
  collateral = c.put_in-collateral.ensures.grows;
  payment = c.put_in-payment.ensures.grows;
  unconfirmed = c.put_in-unconfirmed.ensures.grows;
  outputs = grows_more (grows_none c.args.self.now.outputs.nodes.items) (omega arith);
})
