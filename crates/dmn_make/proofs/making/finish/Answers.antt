use Rattle.dmn_registry.specs.Machine.{at_rest}
use Rattle.dmn_make.proofs.Ending.{ends_with, not_ended, opens_between}
use Rattle.dmn_make.proofs.Fitting.{never_opened}
use Rattle.dmn_make.proofs.making.finish.Goals as goal

pub returns-in-Err-clause-ends : goal.returns-in-Err-clause-ends
returns-in-Err-clause-ends g c = λ tells m end. not_ended c.in-Err.fault c.from.result m c.args.pages.now _ _ c.from.ensures (c.in-Err.ensures.recovers m end.own)

pub returns-in-Ok-seven_lines-clause-ends : goal.returns-in-Ok-seven_lines-clause-ends
returns-in-Ok-seven_lines-clause-ends g c = λ tells m end.
    let stands = c.in-Ok.ensures.recovers m end.own in
    ends_with c.in-Ok.registry m c.summary-audit.result c.tail.result c.args.pages.now c.as_slice.result.now c.in-Ok-seven_lines.text _ _ c.as_slice.ensures end c.open.ensures.reads stands (c.summary-audit.ensures (at_rest m) stands.registry_stands) c.tail.ensures.is c.in-Ok-seven_lines.ensures

pub returns-in-Ok-seven_lines-clause-moments : goal.returns-in-Ok-seven_lines-clause-moments
returns-in-Ok-seven_lines-clause-moments g c = λ m known. opens_between _ _ _ m known c.open.ensures.moments

pub returns-clause-moments : goal.returns-clause-moments
returns-clause-moments g c = λ m known. opens_between _ _ _ m known c.open.ensures.moments

pub returns-in-Err-clause-sure : goal.returns-in-Err-clause-sure
returns-in-Err-clause-sure g c = λ told. never_opened c.in-Err.fault c.from.result _ _ c.from.ensures (c.in-Err.ensures.sure told)
