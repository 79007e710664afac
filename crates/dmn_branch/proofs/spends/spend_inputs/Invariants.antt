use Rattle.std.proofs.Common.{◌≡◌, ◌+◌, drop}
use Rattle.dmn_block.specs.Spend as def
use Rattle.dmn_indexes.specs.Working.{Leads, listing}
use Rattle.dmn_rows.specs.Distinct.{HasDistinctKeys}
use Rattle.dmn_branch.specs.Events.{inputs_events}
use Rattle.dmn_branch.proofs.spends.spend_inputs.Given as goal

abbrev pub invariant-loop-input : goal.invariant-loop-input
invariant-loop-input l = record {
  rest : def.spend_inputs (drop l.input-index l.inputs) (listing l.list) ≡ def.spend_inputs l.inputs (listing l.initial.list);
  events : l.list.events + inputs_events (drop l.input-index l.inputs) (listing l.list) ≡ l.initial.list.events + inputs_events l.inputs (listing l.initial.list);
  leads : Leads l.initial.list l.list;
  keys : HasDistinctKeys l.list.rows;
}
