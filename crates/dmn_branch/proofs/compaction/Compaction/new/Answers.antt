use Rattle.dmn_branch.specs.declared.compaction.Tree.TheVariants as trees
use Rattle.dmn_branch.proofs.Moving.{has_root}
use Rattle.dmn_branch.proofs.compaction.Compaction.new.Goals as goal

pub renew-requires : goal.renew-requires
renew-requires c = λ k d lt. (c.requires k d lt).rows

pub renew-requires-2 : goal.renew-requires-2
renew-requires-2 c = λ k d lt. (c.requires k d lt).owner

pub renew-requires-3 : goal.renew-requires-3
renew-requires-3 c = λ k d lt. (c.requires k d lt).operator

pub renew-requires-4 : goal.renew-requires-4
renew-requires-4 c = λ k d lt. (c.requires k d lt).service

pub renew-requires-5 : goal.renew-requires-5
renew-requires-5 c = λ k d lt. (c.requires k d lt).collateral

pub renew-requires-6 : goal.renew-requires-6
renew-requires-6 c = λ k d lt. (c.requires k d lt).payment

pub renew-requires-7 : goal.renew-requires-7
renew-requires-7 c = λ k d lt. (c.requires k d lt).unconfirmed

pub renew-requires-8 : goal.renew-requires-8
renew-requires-8 c = λ k d lt. (c.requires k d lt).outputs

pub returns-clause-made : goal.returns-clause-made
returns-clause-made c = record {
  rows = c.in_ok-rows.ensures;
  owner = c.in_ok-owner.ensures;
  operator = c.in_ok-operator.ensures;
  service = c.in_ok-service.ensures;
  collateral = c.in_ok-collateral.ensures;
  payment = c.in_ok-payment.ensures;
  unconfirmed = c.in_ok-unconfirmed.ensures;
  outputs = c.in_ok-outputs.ensures;
}

pub returns-clause-there : goal.returns-clause-there
returns-clause-there c = λ place lt. record {
  rows = has_root _ _ trees.Rows c.args.versions.now _ place c.in_ok-rows.ensures lt;
  owner = has_root _ _ trees.Owner c.args.versions.now _ place c.in_ok-owner.ensures lt;
  operator = has_root _ _ trees.Operator c.args.versions.now _ place c.in_ok-operator.ensures lt;
  service = has_root _ _ trees.Service c.args.versions.now _ place c.in_ok-service.ensures lt;
  collateral = has_root _ _ trees.Collateral c.args.versions.now _ place c.in_ok-collateral.ensures lt;
  payment = has_root _ _ trees.Payment c.args.versions.now _ place c.in_ok-payment.ensures lt;
  unconfirmed = has_root _ _ trees.Unconfirmed c.args.versions.now _ place c.in_ok-unconfirmed.ensures lt;
  outputs = has_root _ _ trees.Outputs c.args.versions.now _ place c.in_ok-outputs.ensures lt;
}
