use Rattle.std.proofs.Common.{◌≤◌, length}
use Rattle.dmn_outside.proofs.host_file.fill.Given as goal

abbrev pub invariant-loop : goal.invariant-loop
invariant-loop g l = l.at ≤ length l.out
