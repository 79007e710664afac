use Rattle.std.proofs.Common.{◌+◌, List, drop, sym, ap, ◌∙◌, arith}
use Rattle.dmn_block.specs.Spend as def
use Rattle.dmn_indexes.specs.Working.{listing}
use Rattle.dmn_indexes.proofs.Counting.{leads_then}
use Rattle.dmn_branch.specs.Events.{spend_events}
use Rattle.dmn_branch.proofs.Spending.{cons_at}
use Rattle.dmn_tx.specs.declared.tx.Tx.{Tx}
use Rattle.dmn_branch.proofs.spends.spend.Goals as goal

pub loop-place-preserved : goal.loop-place-preserved
loop-place-preserved c =
    let xs = c.args.txs.now in
    let i = c.loop-place.place in
    let list = listing c.loop-place.list in
    let cons = cons_at xs i c.index-txs-place.result c.loop-place-test.true c.index-txs-place.is in
    let here = ap (λ (l : List Tx). spend_events l list) cons in
    let later = ap (spend_events (drop (i + 1) xs)) c.in_ok-spend_tx.ensures.after in
    record {
      rest = ap (def.spend (drop (i + 1) xs)) c.in_ok-spend_tx.ensures.after ∙ ap (λ (l : List Tx). def.spend l list) (sym cons) ∙ c.loop-place.invariant.rest;
      events = omega (arith, here, later, c.in_ok-spend_tx.ensures.events, c.loop-place.invariant.events);
      leads = leads_then c.loop-place.invariant.leads c.spend_tx.ensures.leads;
      keys = c.in_ok-spend_tx.ensures.keys;
    }
