use Rattle.std.proofs.Common.{ap, ◌∙◌, arith}
use Rattle.dmn_indexes.proofs.Whole.{kept_by, bounded_by}
use Rattle.dmn_versions.proofs.Grow.{grows_more, grows_none}
use Rattle.dmn_indexes.specs.Version.{outputs_of}
use Rattle.dmn_versions.specs.Trees.{reads}
use Rattle.dmn_indexes.proofs.Whole.{outputs_dropped}
use Rattle.dmn_indexes.proofs.indexes.Indexes.drop_output.Goals as goal

pub returns-clause-outputs : goal.returns-clause-outputs
returns-clause-outputs c = ap outputs_of c.remove-outputs.ensures.made.reads ∙ outputs_dropped c.args.point.now (reads c.args.self.now.outputs c.args.version.outputs)

pub returns-clause-bounded : goal.returns-clause-bounded
returns-clause-bounded c few = bounded_by {v = c.args.version} c.requires.whole few (record {
  rows = grows_more (grows_none c.args.self.now.rows.nodes.items) (omega arith);
  owner = grows_more (grows_none c.args.self.now.owner.nodes.items) (omega arith);
  operator = grows_more (grows_none c.args.self.now.operator.nodes.items) (omega arith);
  service = grows_more (grows_none c.args.self.now.service.nodes.items) (omega arith);
  collateral = grows_more (grows_none c.args.self.now.collateral.nodes.items) (omega arith);
  payment = grows_more (grows_none c.args.self.now.payment.nodes.items) (omega arith);
  unconfirmed = grows_more (grows_none c.args.self.now.unconfirmed.nodes.items) (omega arith);
  outputs = grows_more c.remove-outputs.ensures.made.grows (omega arith);
})

pub returns-clause-kept : goal.returns-clause-kept
returns-clause-kept c = kept_by {w = c.args.version} (record {
  rows = grows_more (grows_none c.args.self.now.rows.nodes.items) (omega arith);
  owner = grows_more (grows_none c.args.self.now.owner.nodes.items) (omega arith);
  operator = grows_more (grows_none c.args.self.now.operator.nodes.items) (omega arith);
  service = grows_more (grows_none c.args.self.now.service.nodes.items) (omega arith);
  collateral = grows_more (grows_none c.args.self.now.collateral.nodes.items) (omega arith);
  payment = grows_more (grows_none c.args.self.now.payment.nodes.items) (omega arith);
  unconfirmed = grows_more (grows_none c.args.self.now.unconfirmed.nodes.items) (omega arith);
  outputs = grows_more c.remove-outputs.ensures.made.grows (omega arith);
})
