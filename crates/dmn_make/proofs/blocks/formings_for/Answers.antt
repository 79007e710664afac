use Rattle.std.proofs.Common.{◌≡◌, ◌+◌, List, IfOk, ap, arith, subst, ◌∙◌}
use Rattle.dmn_branch.specs.Machine.{tip}
use Rattle.dmn_branch.specs.declared.tip.Tip.{Tip}
use Rattle.dmn_quorums.specs.Forming.{Formed}
use Rattle.dmn_registry.specs.Machine.{state_of}
use Rattle.dmn_make.proofs.Added.{formed_next, none_formed}
use Rattle.dmn_make.proofs.blocks.formings_for.Goals as goal
use Rattle.dmn_make.proofs.blocks.formings_for.Goals.{then-height-eq0-via-then-height-eq0, then-height-eq0-via-else-height-eq0+then-tip-height}

pub returns-then-height-eq0-clause-formed : goal.returns-then-height-eq0-clause-formed
returns-then-height-eq0-clause-formed c = λ m stands.
    let at = ap (λ (t : Tip). t.height) (c.tip-tip.ensures.tip (state_of m) (rw c.branch-office.ensures stands.branch)) in
    c.new.ensures.items ∙ none_formed m c.args.height (λ is. elim c.then-height-eq0.branch [
      | then-height-eq0-via-then-height-eq0 w ↦ omega (arith, at, is, w.if-height-eq0.true)
      | then-height-eq0-via-else-height-eq0+then-tip-height w ↦ omega (arith, at, is, w.if-height-eq0.false, w.if-tip-height.true)
    ])

pub returns-clause-formed : goal.returns-clause-formed
returns-clause-formed c = λ m stands.
    let at = ap (λ (t : Tip). t.height) (c.tip-tip.ensures.tip (state_of m) (rw c.branch-office.ensures stands.branch)) in
    let is : c.args.height ≡ (tip (state_of m)).height + 1 = omega (arith, at, c.if-height-eq0.false, c.if-tip-height.false) in
    subst (λ (l : List Formed). IfOk c.formings_at.result (λ formings. formings.items ≡ l)) (formed_next m c.args.height is) (c.formings_at.ensures.formed m stands is)
