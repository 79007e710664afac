use Rattle.std.proofs.Common.{sym}
use Rattle.dmn_desk.proofs.Commanding.{release_answers, unknown_pin_answers}
use Rattle.dmn_desk.proofs.pins.release.Goals as goal

pub returns-then-release-clause-answers : goal.returns-then-release-clause-answers
returns-then-release-clause-answers c = λ desk disk. release_answers desk c.args.number c.args.registry.now _ disk (λ m stands. (sym (c.if-release.ensures.live m stands.registry_stands), c.if-release.ensures.released m disk stands))

pub returns-else-release-clause-answers : goal.returns-else-release-clause-answers
returns-else-release-clause-answers c = λ desk disk. unknown_pin_answers desk c.args.number c.args.registry.now _ disk (λ m stands. (sym (c.if-release.ensures.live m stands.registry_stands), c.if-release.ensures.released m disk stands))
