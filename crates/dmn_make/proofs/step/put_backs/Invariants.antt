use Rattle.std.proofs.Common.{◌≡◌, ◌-◌, ◌++◌, replicate}
use Rattle.dmn_make.specs.declared.step.Step.TheVariants.{TakeBack}
use Rattle.dmn_make.proofs.step.put_backs.Given as goal

-- what was added, with what is still to come
abbrev pub invariant-loop : goal.invariant-loop
invariant-loop l = l.steps.items ++ replicate (l.count - l.counter) TakeBack ≡ l.fn.steps.items ++ replicate l.count TakeBack
