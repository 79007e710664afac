use Rattle.std.proofs.Common.{◌≡◌, ◌+◌, take, drop, get_or}
use Rattle.std.specs.List.{All}
use Rattle.dmn_held.specs.Height.{height_data}
use Rattle.dmn_branch.specs.Telling.{AreChanges}
use Rattle.dmn_branch.specs.declared.held.Held.{Held}
use Rattle.dmn_branch.proofs.to_data.changes_of.Given as goal

abbrev pub invariant-loop-place : goal.invariant-loop-place
invariant-loop-place l = record {
  height : l.height ≡ l.low + l.place;
  told : (first : Held) → AreChanges l.indexes l.quorums l.low l.mined (get_or l.held.held 0 first) (take l.place (drop 1 l.held.held)) l.changes.items;
  form : All height_data.Fits l.changes.items;
}
