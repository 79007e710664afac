use Rattle.std.proofs.Common.{ap, sym, arith, length, map}
use Rattle.dmn_versions.specs.Trees.{reads}
use Rattle.dmn_indexes.specs.Parts.{shown}
use Rattle.dmn_indexes.specs.Version.{outputs_in}
use Rattle.dmn_indexes.specs.Working.{Worked}
use Rattle.dmn_indexes.proofs.Counting.{event_leads, room_leads, leads_none, outputs_after_put}
use Rattle.dmn_indexes.proofs.Whole.{outputs_ascend, grown_bound}
use Rattle.dmn_indexes.proofs.working.Working.put_output.Goals as goal

pub returns-then-is_some-clause-leads : goal.returns-then-is_some-clause-leads
returns-then-is_some-clause-leads c = leads_none c.args.self.now

pub returns-clause-leads : goal.returns-clause-leads
returns-clause-leads c =
    let mid = c.reserve.new.self in
    let v = c.self.inside.version in
    let kept = c.reserve.ensures.kept v c.self.invariant in
    let event = c.put_output-self-inside.ensures in
    rw (sym c.self.view_is) (event_leads c.self.invariant c.reserve.ensures.grown c.reserve.ensures.kept event.bounded event.kept (grown_bound event.grown)
    (omega (arith, ap length event.rows))
    (omega (arith, ap length event.outputs, outputs_after_put c.args.point.now c.args.pay (outputs_in mid v) (outputs_ascend (reads mid.outputs v.outputs) kept.whole.outputs.ascending)))
    (omega (arith, c.in_ok-events.ensures, ap (λ (w : Worked). w.events) c.self.view_is))
    (λ unchanged. (unchanged, ap (map shown) event.rows)))

pub returns-in_err-events-clause-leads : goal.returns-in_err-events-clause-leads
returns-in_err-events-clause-leads c = leads_none c.args.self.now

pub returns-in_err-reserve-clause-leads : goal.returns-in_err-reserve-clause-leads
returns-in_err-reserve-clause-leads c = rw (sym c.self.view_is) (room_leads c.self.invariant c.reserve.ensures.grown c.reserve.ensures.kept)
