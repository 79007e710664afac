use Rattle.std.proofs.Common.{arith}
use Rattle.dmn_head.proofs.Planning.{head_plan}
use Rattle.dmn_head.proofs.plan.plan_of.Goals as goal

pub returns-then-spans-head-clause-plans : goal.returns-then-spans-head-clause-plans
returns-then-spans-head-clause-plans c =
    let a = rw c.in-Ok-Complete.field-0-is at c.in-Ok-Complete.ensures.complete in
    head_plan c.args.head.now c.parse_request.new.headers c.in-Ok-Complete.spans a.0 _ (omega (arith, c.parse_request.auto.headers)) c.if-spans-head.true a.1 (rw (c.of-method.ensures, c.of-path.ensures) at c.fields_plan.ensures.plans)
