use Rattle.std.proofs.Common.{◌+◌, ap, sym, ◌∙◌}
use Rattle.dmn_branch.proofs.Events.{told_events}
use Rattle.dmn_branch.proofs.Judging.{working_after}
use Rattle.dmn_branch.proofs.transactions.judge_provider.Goals as goal

pub returns-in-Ok-apply-clause-working : goal.returns-in-Ok-apply-clause-working
returns-in-Ok-apply-clause-working c =
    working_after c.args.setting.now.height c.in-Ok.effect c.args.list.now.rows c.apply.new.list.rows c.in-Ok-apply.ensures.rows (c.in-Ok.ensures.fresh ∙ c.height.ensures) c.in-Ok.ensures.distinct c.requires.working

pub returns-in-Ok-apply-clause-events : goal.returns-in-Ok-apply-clause-events
returns-in-Ok-apply-clause-events c =
    let list = c.args.list.now in
    c.in-Ok-apply.ensures.events ∙ ap (λ n. list.events + n) (sym (told_events c.args.setting.now.height list.rows list.outputs c.args.tx.now c.in-Ok.effect (rw (← c.height.ensures) c.in-Ok.ensures.told)))
