use Rattle.std.proofs.Common.{◌≡◌, drop}
use Rattle.dmn_indexes.specs.Working.{Leads}
use Rattle.dmn_branch.specs.Parts.{IsWorking, punished_at}
use Rattle.dmn_branch.specs.Quorums.{punish_absent}
use Rattle.dmn_branch.proofs.commitments.punish_absent.Given as goal

abbrev pub invariant-loop-place : goal.invariant-loop-place
invariant-loop-place l = record {
  rest : punish_absent l.height l.bits l.place (drop l.place l.members) (punished_at l.height l.list) ≡ punish_absent l.height l.bits 0 l.members (punished_at l.height l.initial.list);
  outputs : l.list.outputs ≡ l.initial.list.outputs;
  working : IsWorking l.height l.list.rows;
  leads : Leads l.initial.list l.list;
}
