use Rattle.std.proofs.Common.{◌≡◌, ◌-◌, ◌++◌}
use Rattle.dmn_make.specs.Steps.{adds}
use Rattle.dmn_make.proofs.step.put_adds.Given as goal

-- what was added, with what is still to come
abbrev pub invariant-loop-height : goal.invariant-loop-height
invariant-loop-height l = l.steps.items ++ adds l.chain l.height (l.height-end - l.height) ≡ l.fn.steps.items ++ adds l.chain l.from (l.height-end - l.from)
