use Rattle.std.proofs.Common.{◌∙◌, List, ap}
use Rattle.dmn_block.specs.State.{State}
use Rattle.dmn_branch.specs.Asked.{quorums_in}
use Rattle.dmn_payloads.specs.declared.commitment.Commitment.{Commitment}
use Rattle.dmn_desk.specs.declared.answer.Answer.TheVariants.{Grown}
use Rattle.dmn_desk.specs.declared.answer.GrownAnswer.TheVariants as grown
use Rattle.dmn_desk.proofs.Heights.{told_by, told_none}
use Rattle.dmn_desk.proofs.quorums.quorums_at.Goals as goal

pub returns-then-not-is_held-clause-answer : goal.returns-then-not-is_held-clause-answer
returns-then-not-is_held-clause-answer c = λ m stands. c.not_held.ensures ∙ told_none m c.tip-tip.result c.args.height (λ (s : State). Grown (grown.Quorums (quorums_in m s))) (c.tip-tip.ensures.tip m stands) c.if-not-is_held.ensures

pub returns-clause-answer : goal.returns-clause-answer
returns-clause-answer c = λ m stands.
    ap (λ (quorums : List Commitment). Grown (grown.Quorums quorums)) c.from_vec.ensures
    ∙ told_by m c.tip-tip.result c.args.height (quorums_in m) (λ (quorums : List Commitment). Grown (grown.Quorums quorums)) _ (c.tip-tip.ensures.tip m stands) c.if-not-is_held.ensures (c.in_ok-quorums.ensures m stands)
