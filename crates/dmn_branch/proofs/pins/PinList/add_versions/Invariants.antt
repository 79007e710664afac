use Rattle.std.proofs.Common.{◌≡◌, ◌++◌, map, take}
use Rattle.dmn_branch.specs.Compact.{pin_version}
use Rattle.dmn_branch.proofs.pins.PinList.add_versions.Given as goal

abbrev pub invariant-loop-pin : goal.invariant-loop-pin
invariant-loop-pin l = l.versions.items ≡ l.fn.versions.items ++ map pin_version (take l.pin-index l.self)
