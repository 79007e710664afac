use Rattle.std.proofs.Common.{◌≡◌, Option, Some, None, Bor, refl, ap, ◌∙◌, sym, arith}
use Rattle.std.specs.Prelude.{is_some}
use Rattle.std.specs.Option.{option_copied}
use Rattle.dmn_indexes.specs.Version.{outputs_of}
use Rattle.dmn_versions.specs.Trees.{reads}
use Rattle.dmn_indexes.proofs.Whole.{kept_by, bounded_by}
use Rattle.dmn_versions.proofs.Grow.{grows_more, grows_none}
use Rattle.dmn_indexes.proofs.Whole.{output_stays, output_added}
use Rattle.dmn_indexes.proofs.indexes.Indexes.put_output.Goals as goal

is_some-copied : {A : Type 0} (o : Option (Bor A)) → is_some (option_copied o) ≡ is_some o
is_some-copied None = refl
is_some-copied (Some x) = refl

pub returns-then-is_some-clause-outputs : goal.returns-then-is_some-clause-outputs
returns-then-is_some-clause-outputs c =
    output_stays c.args.point.now c.args.pay (reads c.args.self.now.outputs c.args.version.outputs) (ap is_some (sym c.get.ensures) ∙ is_some-copied c.get.result ∙ sym c.is_some.ensures ∙ c.if-is_some.true)

pub returns-clause-outputs : goal.returns-clause-outputs
returns-clause-outputs c =
    let ps = reads c.args.self.now.outputs c.args.version.outputs in
    ap outputs_of c.insert-outputs.ensures.made.reads
    ∙ output_added c.args.point.now c.args.pay ps c.requires.whole.outputs.ascending (ap is_some (sym c.get.ensures) ∙ is_some-copied c.get.result ∙ sym c.is_some.ensures ∙ c.if-is_some.false)

pub returns-clause-bounded : goal.returns-clause-bounded
returns-clause-bounded c few = bounded_by {v = c.args.version} c.requires.whole few (record {
  rows = grows_more (grows_none c.args.self.now.rows.nodes.items) (omega arith);
  owner = grows_more (grows_none c.args.self.now.owner.nodes.items) (omega arith);
  operator = grows_more (grows_none c.args.self.now.operator.nodes.items) (omega arith);
  service = grows_more (grows_none c.args.self.now.service.nodes.items) (omega arith);
  collateral = grows_more (grows_none c.args.self.now.collateral.nodes.items) (omega arith);
  payment = grows_more (grows_none c.args.self.now.payment.nodes.items) (omega arith);
  unconfirmed = grows_more (grows_none c.args.self.now.unconfirmed.nodes.items) (omega arith);
  outputs = grows_more c.insert-outputs.ensures.made.grows (omega arith);
})

pub returns-clause-kept : goal.returns-clause-kept
returns-clause-kept c = kept_by {w = c.args.version} (record {
  rows = grows_more (grows_none c.args.self.now.rows.nodes.items) (omega arith);
  owner = grows_more (grows_none c.args.self.now.owner.nodes.items) (omega arith);
  operator = grows_more (grows_none c.args.self.now.operator.nodes.items) (omega arith);
  service = grows_more (grows_none c.args.self.now.service.nodes.items) (omega arith);
  collateral = grows_more (grows_none c.args.self.now.collateral.nodes.items) (omega arith);
  payment = grows_more (grows_none c.args.self.now.payment.nodes.items) (omega arith);
  unconfirmed = grows_more (grows_none c.args.self.now.unconfirmed.nodes.items) (omega arith);
  outputs = grows_more c.insert-outputs.ensures.made.grows (omega arith);
})
