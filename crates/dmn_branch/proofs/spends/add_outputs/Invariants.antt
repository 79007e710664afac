use Rattle.std.proofs.Common.{◌≡◌, ◌+◌, drop}
use Rattle.dmn_block.specs.Spend as def
use Rattle.dmn_indexes.specs.Working.{Leads, listing}
use Rattle.dmn_branch.specs.Events.{outputs_events}
use Rattle.dmn_branch.proofs.spends.add_outputs.Given as goal

abbrev pub invariant-loop-index : goal.invariant-loop-index
invariant-loop-index l = record {
  rest : def.add_outputs l.id l.index (drop l.index l.outputs) (listing l.list) ≡ def.add_outputs l.id 0 l.outputs (listing l.initial.list);
  events : l.list.events + outputs_events l.id l.index (drop l.index l.outputs) (listing l.list) ≡ l.initial.list.events + outputs_events l.id 0 l.outputs (listing l.initial.list);
  leads : Leads l.initial.list l.list;
}
