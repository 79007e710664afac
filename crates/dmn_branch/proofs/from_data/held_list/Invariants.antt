use Rattle.std.proofs.Common.{◌+◌, take}
use Rattle.dmn_branch.specs.Taking.{AreMadeOf, heads}
use Rattle.dmn_branch.proofs.from_data.held_list.Given as goal

abbrev pub invariant-loop-place : goal.invariant-loop-place
invariant-loop-place l = AreMadeOf (take (l.place + 1) (heads l.held)) (take (l.place + 1) l.versions) l.list.held
