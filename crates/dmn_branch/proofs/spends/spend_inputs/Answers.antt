use Rattle.std.proofs.Common.{◌+◌, List, drop, sym, ap, ◌∙◌, arith}
use Rattle.dmn_block.specs.Spend as def
use Rattle.dmn_indexes.specs.Working.{listing}
use Rattle.dmn_indexes.proofs.Counting.{leads_then}
use Rattle.dmn_branch.specs.Events.{inputs_events}
use Rattle.dmn_branch.proofs.Spending.{cons_at}
use Rattle.dmn_tx.specs.declared.tx.TxIn.{TxIn}
use Rattle.dmn_branch.proofs.spends.spend_inputs.Goals as goal

pub loop-input-preserved : goal.loop-input-preserved
loop-input-preserved c =
    let xs = c.args.inputs.now in
    let i = c.loop-input.input-index in
    let list = listing c.loop-input.list in
    let cons = cons_at xs i c.input-item.result c.loop-input-test.true c.input-item.is in
    let here = ap (λ (l : List TxIn). inputs_events l list) cons in
    let later = ap (inputs_events (drop (i + 1) xs)) c.in_ok-spend_point.ensures.after in
    record {
      rest = ap (def.spend_inputs (drop (i + 1) xs)) c.in_ok-spend_point.ensures.after ∙ ap (λ (l : List TxIn). def.spend_inputs l list) (sym cons) ∙ c.loop-input.invariant.rest;
      events = omega (arith, here, later, c.in_ok-spend_point.ensures.events, c.loop-input.invariant.events);
      leads = leads_then c.loop-input.invariant.leads c.spend_point.ensures.leads;
      keys = c.in_ok-spend_point.ensures.keys;
    }
