use Rattle.std.proofs.Common.{◌≡◌, [], take}
use Rattle.dmn_branch.proofs.origin.put_all.Given as goal

abbrev pub invariant-loop-place : goal.invariant-loop-place
invariant-loop-place l = record {
  rows : l.list.rows ≡ [];
  outputs : l.list.outputs ≡ take l.place l.outputs;
}
