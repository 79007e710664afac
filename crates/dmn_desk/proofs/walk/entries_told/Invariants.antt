use Rattle.std.proofs.Common.{◌≡◌, ◌++◌, drop}
use Rattle.dmn_branch.specs.Asked.{rows_at}
use Rattle.dmn_branch.specs.Machine.{MachineState}
use Rattle.dmn_branch.specs.Stands.{StandsFor}
use Rattle.dmn_desk.specs.Ask.{entries_told}
use Rattle.dmn_desk.proofs.walk.entries_told.Given as goal

-- what is made, with what is still to come
abbrev pub invariant-loop-row : goal.invariant-loop-row
invariant-loop-row l = (m : MachineState) → StandsFor l.branch m → l.entries.items ++ entries_told (rows_at m l.from) (drop l.row-index l.rows) ≡ entries_told (rows_at m l.from) l.rows
