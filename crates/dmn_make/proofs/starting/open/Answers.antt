use Rattle.dmn_generator.specs.Blocks.{start}
use Rattle.dmn_registry.specs.Machine.{at_rest, begun}
use Rattle.dmn_office.proofs.Opened.{own_between}
use Rattle.dmn_make.proofs.Beginning.{no_mark_yet, not_opened}
use Rattle.dmn_make.proofs.Fitting.{never_opened}
use Rattle.dmn_make.proofs.starting.open.Goals as goal

pub returns-in-Err-clause-opened : goal.returns-in-Err-clause-opened
returns-in-Err-clause-opened g c = λ tells known. not_opened c.in-Err.fault c.from.result (at_rest (begun start)) _ _ c.from.ensures (c.in-Err.ensures.recovers (begun start) known)

pub returns-in-Err-clause-moments : goal.returns-in-Err-clause-moments
returns-in-Err-clause-moments g c = λ known. own_between _ _ _ (begun start) (c.open.ensures.moments (begun start) known)

pub returns-in-Ok-clause-opened : goal.returns-in-Ok-clause-opened
returns-in-Ok-clause-opened g c = λ tells known.
    let stands = c.in-Ok.ensures.recovers (begun start) known in
    record {
      office = record { at = stands; mark = no_mark_yet _ _ (g.D.Device.as_much c.open.new.disk).reads tells stands.registry };
      pages = c.new.ensures;
    }

pub returns-in-Ok-clause-moments : goal.returns-in-Ok-clause-moments
returns-in-Ok-clause-moments g c = λ known. own_between _ _ _ (begun start) (c.open.ensures.moments (begun start) known)

pub returns-in-Err-clause-sure : goal.returns-in-Err-clause-sure
returns-in-Err-clause-sure g c = λ told. never_opened c.in-Err.fault c.from.result _ _ c.from.ensures (c.in-Err.ensures.sure told)
