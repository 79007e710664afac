use Rattle.dmn_indexes.proofs.Cutting.{cut_keeps}
use Rattle.dmn_indexes.proofs.indexes.Indexes.cut.Goals as goal

pub returns-clause-kept : goal.returns-clause-kept
returns-clause-kept c = cut_keeps {marks = c.args.marks.now} (record {
  rows = c.truncate.ensures.cut;
  owner = c.truncate-2.ensures.cut;
  operator = c.truncate-3.ensures.cut;
  service = c.truncate-4.ensures.cut;
  collateral = c.truncate-5.ensures.cut;
  payment = c.truncate-6.ensures.cut;
  unconfirmed = c.truncate-7.ensures.cut;
  outputs = c.truncate-8.ensures.cut;
})
