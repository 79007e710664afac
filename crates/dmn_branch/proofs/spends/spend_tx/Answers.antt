use Rattle.dmn_indexes.specs.Working.{listing}
use Rattle.dmn_branch.proofs.Spending.{added_keys}
use Rattle.dmn_branch.proofs.spends.spend_tx.Goals as goal

pub returns-clause-keys : goal.returns-clause-keys
returns-clause-keys c = added_keys c.add_outputs.result c.args.id.now c.as_slice-2.result.now (listing c.spend_inputs.new.list) (listing c.add_outputs.new.list) c.in_ok-spend_inputs.ensures.keys c.add_outputs.ensures.after
