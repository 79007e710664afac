use Rattle.dmn_registry.specs.Machine.{at_rest, state_of}
use Rattle.dmn_office.proofs.Opened.{not_opened, opened, reads_journal, unopened}
use Rattle.dmn_office.proofs.office.Office.open.Goals as goal

pub returns-in_default-clause-moments : goal.returns-in_default-clause-moments
returns-in_default-clause-moments g c = λ m known. unopened (g.D.Device.time c.args.disk.now) (g.D.Device.disk c.args.disk.now) m (g.D.Device.past_is_over c.args.disk.now) known

pub returns-in-Ok-open-clause-recovers : goal.returns-in-Ok-open-clause-recovers
returns-in-Ok-open-clause-recovers g c = λ m known. record { registry = c.in-Ok-open.ensures.recovers m known; desk = c.in-Ok.ensures.true_to_each (state_of (at_rest m)) }

pub returns-in-Ok-open-clause-moments : goal.returns-in-Ok-open-clause-moments
returns-in-Ok-open-clause-moments g c = λ m known. opened (g.D.Device.time c.args.disk.now) (g.D.Device.disk c.args.disk.now) (g.D.Device.disk c.open.new.disk) m known c.open.ensures.moments

pub returns-in-Ok-open-clause-opens : goal.returns-in-Ok-open-clause-opens
returns-in-Ok-open-clause-opens g c = λ true_slot. let found = c.in-Ok-open.ensures.opens true_slot in reads_journal (at_rest found.0) _ _ c.open.ensures.reads found.1.disk

pub returns-in-Err-clause-recovers : goal.returns-in-Err-clause-recovers
returns-in-Err-clause-recovers g c = λ m known. not_opened c.in-Err.fault m (at_rest m) _ (c.in-Err.ensures.recovers m known)

pub returns-in-Err-clause-moments : goal.returns-in-Err-clause-moments
returns-in-Err-clause-moments g c = λ m known. opened (g.D.Device.time c.args.disk.now) (g.D.Device.disk c.args.disk.now) (g.D.Device.disk c.open.new.disk) m known c.open.ensures.moments
