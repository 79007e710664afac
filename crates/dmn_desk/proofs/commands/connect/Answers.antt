use Rattle.std.proofs.Common.{sym, subst}
use Rattle.dmn_branch.specs.Stands as branches
use Rattle.dmn_branch.specs.Stands.{Keeping}
use Rattle.dmn_desk.proofs.Commanding.{connected_answers, full_answers, lacking_answers, refused_answers}
use Rattle.dmn_desk.proofs.Marking.{full_marks, refused_marks}
use Rattle.dmn_desk.proofs.commands.connect.Goals as goal

pub returns-in-Ok-clause-answers : goal.returns-in-Ok-clause-answers
returns-in-Ok-clause-answers g c = λ desk.
    connected_answers c.args.block.now c.args.body.now desk c.args.registry.now _ _ _ c.tip-tip.result c.requires.text c.requires.block.ids c.in-Ok.ensures.connects
    (λ s stands. c.tip-tip.ensures.tip s (subst (λ (b : Keeping). branches.StandsFor b s) (sym c.branch-registry.ensures) stands))

pub returns-in-Err-Refused-clause-answers : goal.returns-in-Err-Refused-clause-answers
returns-in-Err-Refused-clause-answers g c = λ desk. refused_answers c.args.block.now c.args.body.now desk c.args.registry.now _ _ _ _ _ c.in-Err-Refused.field-0-is c.in-Err-Refused.ensures.connects

pub returns-in-Err-JournalFull-clause-answers : goal.returns-in-Err-JournalFull-clause-answers
returns-in-Err-JournalFull-clause-answers g c = λ desk. full_answers c.args.block.now c.args.body.now desk c.args.registry.now _ _ _ _ c.in-Err-JournalFull.field-0-is c.in-Err-JournalFull.ensures.connects

pub returns-in-Err-Memory-clause-answers : goal.returns-in-Err-Memory-clause-answers
returns-in-Err-Memory-clause-answers g c = λ desk. lacking_answers c.args.block.now c.args.body.now desk c.args.registry.now _ _ _ _ c.in-Err-Memory.field-0-is c.in-Err-Memory.ensures.connects

pub returns-in-Err-Refused-clause-mark : goal.returns-in-Err-Refused-clause-mark
returns-in-Err-Refused-clause-mark g c = λ m stands. refused_marks c.args.block.now c.args.body.now m c.args.registry.now _ _ _ _ _ c.in-Err-Refused.field-0-is stands (c.in-Err-Refused.ensures.connects m stands) (c.connect.ensures.idle (rw c.in-Err-Refused.is (rw c.in-Err-Refused.field-0-is tt)))

pub returns-in-Err-JournalFull-clause-mark : goal.returns-in-Err-JournalFull-clause-mark
returns-in-Err-JournalFull-clause-mark g c = λ m stands. full_marks c.args.block.now c.args.body.now m c.args.registry.now _ _ _ _ c.in-Err-JournalFull.field-0-is stands (c.in-Err-JournalFull.ensures.connects m stands) (c.connect.ensures.idle (rw c.in-Err-JournalFull.is (rw c.in-Err-JournalFull.field-0-is tt)))
