use Rattle.std.proofs.Common.{sym, ◌∙◌, arith}
use Rattle.dmn_branch.proofs.Judging.{plain_rule, plain_after, provider_judges, provider_after}
use Rattle.dmn_branch.proofs.transactions.judge_one.Goals as goal

pub returns-then-not-is_special-clause-rule : goal.returns-then-not-is_special-clause-rule
returns-then-not-is_special-clause-rule c = plain_rule _ _ _ _ (sym c.is_special.ensures ∙ c.if-not-is_special.true)

pub returns-then-not-is_special-clause-after : goal.returns-then-not-is_special-clause-after
returns-then-not-is_special-clause-after c = plain_after _ _ _ _ (sym c.is_special.ensures ∙ c.if-not-is_special.true) c.requires.working

pub returns-else-tx-gt-REVOKE_TX-clause-rule : goal.returns-else-tx-gt-REVOKE_TX-clause-rule
returns-else-tx-gt-REVOKE_TX-clause-rule c =
    provider_judges _ _ _ _ _ (sym c.is_special.ensures ∙ c.if-not-is_special.false) (omega (arith, c.if-tx-gt-REVOKE_TX.false)) c.judge_provider.ensures.rule

pub returns-else-tx-gt-REVOKE_TX-clause-after : goal.returns-else-tx-gt-REVOKE_TX-clause-after
returns-else-tx-gt-REVOKE_TX-clause-after c =
    provider_after _ _ _ _ _ _ (sym c.is_special.ensures ∙ c.if-not-is_special.false) (omega (arith, c.if-tx-gt-REVOKE_TX.false)) c.judge_provider.ensures.rows c.judge_provider.ensures.events c.judge_provider.ensures.outputs c.judge_provider.ensures.working
