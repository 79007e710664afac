use Rattle.std.proofs.Common.{◌≡◌, ◌+◌, ◌++◌, drop}
use Rattle.dmn_branch.specs.Taking.{mined_behind}
use Rattle.dmn_branch.proofs.from_data.mined_of.Given as goal

abbrev pub invariant-loop-place : goal.invariant-loop-place
invariant-loop-place l = record {
  mined : l.mined ++ mined_behind l.height (drop l.place l.heights) ≡ l.initial.mined ++ mined_behind l.held.low l.heights;
  height : l.height ≡ l.held.low + l.place;
}
