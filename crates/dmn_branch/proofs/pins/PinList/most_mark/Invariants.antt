use Rattle.std.proofs.Common.{◌≡◌, drop}
use Rattle.dmn_branch.specs.Stands.{most_mark}
use Rattle.dmn_branch.proofs.pins.PinList.most_mark.Given as goal

abbrev pub invariant-loop-pin : goal.invariant-loop-pin
invariant-loop-pin l = most_mark l.most (drop l.pin-index l.self) ≡ most_mark l.mark l.self
