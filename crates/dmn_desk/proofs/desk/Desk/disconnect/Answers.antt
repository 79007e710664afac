use Rattle.std.proofs.Common.{sym, subst}
use Rattle.dmn_branch.specs.Stands as branches
use Rattle.dmn_branch.specs.Stands.{Keeping}
use Rattle.dmn_desk.proofs.Commanding.{at_start_answers, back_answers, full_back_answers, not_tip_answers, too_deep_answers}
use Rattle.dmn_desk.proofs.desk.Desk.disconnect.Goals as goal

pub returns-in-Ok-clause-answers : goal.returns-in-Ok-clause-answers
returns-in-Ok-clause-answers g c =
    back_answers c.args.hash.now c.args.self.now (record { changes = c.forget.new.self }) c.args.registry.now _ _ _ c.tip-tip.result c.forget.ensures c.in-Ok.ensures.disconnects
    (λ s stands. c.tip-tip.ensures.tip s (subst (λ (b : Keeping). branches.StandsFor b s) (sym c.branch-registry.ensures) stands))

pub returns-in-Err-NotTip-clause-answers : goal.returns-in-Err-NotTip-clause-answers
returns-in-Err-NotTip-clause-answers g c = not_tip_answers c.args.hash.now c.args.self.now c.args.registry.now _ _ _ _ _ c.in-Err-NotTip.field-0-is c.in-Err-NotTip.ensures.disconnects

pub returns-in-Err-AtStart-clause-answers : goal.returns-in-Err-AtStart-clause-answers
returns-in-Err-AtStart-clause-answers g c = at_start_answers c.args.hash.now c.args.self.now c.args.registry.now _ _ _ _ c.in-Err-AtStart.field-0-is c.in-Err-AtStart.ensures.disconnects

pub returns-in-Err-TooDeep-clause-answers : goal.returns-in-Err-TooDeep-clause-answers
returns-in-Err-TooDeep-clause-answers g c = too_deep_answers c.args.hash.now c.args.self.now c.args.registry.now _ _ _ _ _ c.in-Err-TooDeep.field-0-is c.in-Err-TooDeep.ensures.disconnects

pub returns-in-Err-JournalFull-clause-answers : goal.returns-in-Err-JournalFull-clause-answers
returns-in-Err-JournalFull-clause-answers g c = full_back_answers c.args.hash.now c.args.self.now c.args.registry.now _ _ _ _ c.in-Err-JournalFull.field-0-is c.in-Err-JournalFull.ensures.disconnects
