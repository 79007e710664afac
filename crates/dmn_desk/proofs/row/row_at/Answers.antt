use Rattle.std.proofs.Common.{◌∙◌, ap, sym}
use Rattle.std.specs.Option.{option_copied}
use Rattle.dmn_block.specs.State.{State}
use Rattle.dmn_rows.specs.declared.row.MnRow.{MnRow}
use Rattle.dmn_branch.specs.Asked.{row_of, seen_at}
use Rattle.dmn_desk.specs.declared.answer.Answer.TheVariants.{Grown}
use Rattle.dmn_desk.specs.declared.answer.GrownAnswer.TheVariants as grown
use Rattle.dmn_desk.specs.Ask.{row_or_none}
use Rattle.dmn_desk.proofs.Heights.{told_by, told_none}
use Rattle.dmn_desk.proofs.row.row_at.Goals as goal

pub returns-then-not-is_held-clause-answer : goal.returns-then-not-is_held-clause-answer
returns-then-not-is_held-clause-answer c = λ m stands. c.not_held.ensures ∙ told_none m c.tip-tip.result c.args.height (λ (s : State). row_or_none c.args.height (row_of c.args.hash.now s)) (c.tip-tip.ensures.tip m stands) c.if-not-is_held.ensures

pub returns-in-None-clause-answer : goal.returns-in-None-clause-answer
returns-in-None-clause-answer c = λ m stands.
    ap (λ o. row_or_none c.args.height (seen_at c.args.height (option_copied o))) (sym c.in-None.is)
    ∙ told_by m c.tip-tip.result c.args.height (row_of c.args.hash.now) (row_or_none c.args.height) _ (c.tip-tip.ensures.tip m stands) c.if-not-is_held.ensures (c.row_at.ensures m stands)

pub returns-in-Some-clause-answer : goal.returns-in-Some-clause-answer
returns-in-Some-clause-answer c = λ m stands.
    ap (λ (r : MnRow). Grown (grown.Row r)) c.row_after.ensures
    ∙ ap (λ o. row_or_none c.args.height (seen_at c.args.height (option_copied o))) (sym c.in-Some.is)
    ∙ told_by m c.tip-tip.result c.args.height (row_of c.args.hash.now) (row_or_none c.args.height) _ (c.tip-tip.ensures.tip m stands) c.if-not-is_held.ensures (c.row_at.ensures m stands)
