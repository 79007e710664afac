use Rattle.std.proofs.Common.{ℕ, List, [], ◌∷◌, ◌++◌, ap, ◌∙◌}
use Rattle.dmn_make.proofs.Stepping.{all_are}
use Rattle.dmn_make.specs.Steps.{adds}
use Rattle.dmn_make.specs.declared.step.Chain.TheVariants.{First}
use Rattle.dmn_make.specs.declared.step.Step.{Step}
use Rattle.dmn_make.specs.declared.step.Step.TheVariants.{Tell}
use Rattle.dmn_make.proofs.step.all_steps.Goals as goal

pub returns : goal.returns
returns c =
    all_are c.put_adds.new.steps.items c.put_step.new.steps.items c.put_step-2.new.steps.items c.put_backs.new.steps.items c.put_adds-2.new.steps.items c.put_step-3.new.steps.items
    (c.in_ok-put_adds.ensures ∙ ap (λ (l : List Step). l ++ adds First 576 600) c.new-steps.ensures.items)
    c.in_ok-put_step.ensures c.in_ok-put_step-2.ensures c.in_ok-put_backs.ensures c.in_ok-put_adds-2.ensures (c.in_ok-put_step-3.ensures ∙ ap (λ (n : ℕ). c.put_adds-2.new.steps.items ++ Tell n ∷ []) c.from.ensures)
