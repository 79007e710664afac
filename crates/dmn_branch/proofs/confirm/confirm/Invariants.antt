use Rattle.std.proofs.Common.{◌≡◌, ◌+◌}
use Rattle.dmn_indexes.specs.Working.{Leads}
use Rattle.dmn_rows.specs.Profile.{confirm_wait}
use Rattle.dmn_standing.specs.Standing.{confirmed}
use Rattle.dmn_branch.specs.Events.{confirmations}
use Rattle.dmn_branch.specs.Parts.{IsWorking}
use Rattle.dmn_branch.proofs.confirm.confirm.Given as goal

abbrev pub invariant-loop-row : goal.invariant-loop-row
invariant-loop-row l = record {
  rows : confirmed confirm_wait l.height l.hash l.list.rows ≡ confirmed confirm_wait l.height l.hash l.initial.list.rows;
  outputs : l.list.outputs ≡ l.initial.list.outputs;
  events : l.list.events + confirmations confirm_wait l.height l.list.rows ≡ l.initial.list.events + confirmations confirm_wait l.height l.initial.list.rows;
  working : IsWorking l.height l.list.rows;
  leads : Leads l.initial.list l.list;
}

abbrev pub decreases-loop-row : goal.decreases-loop-row
decreases-loop-row l = confirmations confirm_wait l.height l.list.rows
