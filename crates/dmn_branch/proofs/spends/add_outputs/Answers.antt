use Rattle.std.proofs.Common.{◌+◌, List, drop, sym, ap, ◌∙◌, arith}
use Rattle.dmn_block.specs.Spend as def
use Rattle.dmn_indexes.specs.Working.{listing}
use Rattle.dmn_indexes.proofs.Counting.{leads_then}
use Rattle.dmn_branch.specs.Events.{outputs_events}
use Rattle.dmn_branch.proofs.Spending.{cons_at}
use Rattle.dmn_tx.specs.declared.tx.TxOut.{TxOut}
use Rattle.dmn_branch.proofs.spends.add_outputs.Goals as goal

pub loop-index-preserved : goal.loop-index-preserved
loop-index-preserved c =
    let xs = c.args.outputs.now in
    let i = c.loop-index.index in
    let list = listing c.loop-index.list in
    let cons = cons_at xs i c.index-outputs-index.result c.loop-index-test.true c.index-outputs-index.is in
    let here = ap (λ (l : List TxOut). outputs_events c.args.id.now i l list) cons in
    let later = ap (outputs_events c.args.id.now (i + 1) (drop (i + 1) xs)) c.in_ok-add_output.ensures.after in
    record {
      rest = ap (def.add_outputs c.args.id.now (i + 1) (drop (i + 1) xs)) c.in_ok-add_output.ensures.after
          ∙ ap (λ (l : List TxOut). def.add_outputs c.args.id.now i l list) (sym cons)
          ∙ c.loop-index.invariant.rest;
      events = omega (arith, here, later, c.in_ok-add_output.ensures.events, c.loop-index.invariant.events);
      leads = leads_then c.loop-index.invariant.leads c.add_output.ensures.leads;
    }
