use Rattle.std.proofs.Common.{arith}
use Rattle.dmn_light.proofs.Answering.{diff_applied, diff_bounded, diff_refused}
use Rattle.dmn_light.proofs.machine.apply.Goals as goal

pub returns-in-Ok-clause-answers : goal.returns-in-Ok-clause-answers
returns-in-Ok-clause-answers c = diff_applied c.args.client.now c.apply.new.self c.args.text.now c.in-Ok.applied c.in-Ok.ensures

pub returns-in-Err-clause-answers : goal.returns-in-Err-clause-answers
returns-in-Err-clause-answers c = diff_refused c.args.client.now c.apply.new.self c.args.text.now c.in-Err.fault c.in-Err.ensures

pub returns-in-Err-clause-bounded : goal.returns-in-Err-clause-bounded
returns-in-Err-clause-bounded c = diff_bounded c.args.client.now c.apply.new.self c.args.text.now c.in-Err.fault (λ i. omega (arith, c.type_inv.text i)) c.requires c.in-Err.ensures
