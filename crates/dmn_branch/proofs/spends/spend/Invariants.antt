use Rattle.std.proofs.Common.{◌≡◌, ◌+◌, drop}
use Rattle.dmn_block.specs.Spend as def
use Rattle.dmn_indexes.specs.Working.{Leads, listing}
use Rattle.dmn_rows.specs.Distinct.{HasDistinctKeys}
use Rattle.dmn_branch.specs.Events.{spend_events}
use Rattle.dmn_branch.proofs.spends.spend.Given as goal

abbrev pub invariant-loop-place : goal.invariant-loop-place
invariant-loop-place l = record {
  rest : def.spend (drop l.place l.txs) (listing l.list) ≡ def.spend l.txs (listing l.initial.list);
  events : l.list.events + spend_events (drop l.place l.txs) (listing l.list) ≡ l.initial.list.events + spend_events l.txs (listing l.initial.list);
  leads : Leads l.initial.list l.list;
  keys : HasDistinctKeys l.list.rows;
}
