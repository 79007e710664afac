use Rattle.std.proofs.Common.{◌≡◌}
use Rattle.dmn_indexes.specs.Working.{Leads}
use Rattle.dmn_branch.specs.Parts.{IsWorking, from_place}
use Rattle.dmn_branch.proofs.transactions.judge_all.Given as goal

abbrev pub invariant-loop-place : goal.invariant-loop-place
invariant-loop-place l = record {
  rest : from_place l.setting l.block l.list l.committed l.place ≡ from_place l.setting l.block l.initial.list l.initial.committed 1;
  outputs : l.list.outputs ≡ l.initial.list.outputs;
  working : IsWorking l.setting.height l.list.rows;
  leads : Leads l.initial.list l.list;
}
