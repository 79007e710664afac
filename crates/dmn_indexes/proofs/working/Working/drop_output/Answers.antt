use Rattle.std.proofs.Common.{ap, sym, arith, length, map}
use Rattle.dmn_indexes.specs.Parts.{shown}
use Rattle.dmn_indexes.specs.Version.{outputs_in}
use Rattle.dmn_indexes.specs.Working.{Worked}
use Rattle.dmn_indexes.proofs.Absent.{no_output}
use Rattle.dmn_indexes.proofs.Counting.{event_leads, room_leads, leads_none, outputs_after_drop}
use Rattle.dmn_indexes.proofs.Whole.{grown_bound}
use Rattle.dmn_indexes.proofs.working.Working.drop_output.Goals as goal

pub returns-then-is_none-clause-leads : goal.returns-then-is_none-clause-leads
returns-then-is_none-clause-leads c = leads_none c.args.self.now

pub returns-then-is_none-clause-outputs : goal.returns-then-is_none-clause-outputs
returns-then-is_none-clause-outputs c = no_output c.args.point.now c.args.self.now.outputs c.output.result c.is_none.result c.output.ensures c.is_none.ensures c.if-is_none.true

pub returns-clause-leads : goal.returns-clause-leads
returns-clause-leads c =
    let mid = c.reserve.new.self in
    let event = c.drop_output-self-inside.ensures in
    rw (sym c.self.view_is) (event_leads c.self.invariant c.reserve.ensures.grown c.reserve.ensures.kept event.bounded event.kept (grown_bound event.grown)
    (omega (arith, ap length event.rows))
    (omega (arith, ap length event.outputs, outputs_after_drop c.args.point.now (outputs_in mid c.self.inside.version)))
    (omega (arith, c.in_ok-events.ensures, ap (λ (w : Worked). w.events) c.self.view_is))
    (λ unchanged. (unchanged, ap (map shown) event.rows)))

pub returns-in_err-events-clause-leads : goal.returns-in_err-events-clause-leads
returns-in_err-events-clause-leads c = leads_none c.args.self.now

pub returns-in_err-reserve-clause-leads : goal.returns-in_err-reserve-clause-leads
returns-in_err-reserve-clause-leads c = rw (sym c.self.view_is) (room_leads c.self.invariant c.reserve.ensures.grown c.reserve.ensures.kept)
