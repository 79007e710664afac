use Rattle.std.proofs.Common.{◌≡◌, map, take}
use Rattle.dmn_branch.specs.declared.held.Held.{Held}
use Rattle.dmn_branch.proofs.held.HeldList.versions.Given as goal

abbrev pub invariant-loop-held : goal.invariant-loop-held
invariant-loop-held l = l.versions.items ≡ map (λ (h : Held). h.version) (take l.held-index l.self.held)
