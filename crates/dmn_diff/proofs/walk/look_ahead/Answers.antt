use Rattle.std.proofs.Common.{sym, ◌∙◌}
use Rattle.dmn_diff.proofs.Steps.{front_less, front_greater, front_same, front_changed}
use Rattle.dmn_diff.proofs.walk.look_ahead.Goals as goal

pub returns-in-Less : goal.returns-in-Less
returns-in-Less c = front_less c.args.old.now c.args.new.now c.in-Some-Some.before.now c.in-Some-Some.entry.now c.in-Some-Some.ensures.value c.in-Some-Some.ensures'.value c.requires.old c.requires.new (sym c.cmp.ensures ∙ c.in-Less.is)

pub returns-in-Greater : goal.returns-in-Greater
returns-in-Greater c = front_greater c.args.old.now c.args.new.now c.in-Some-Some.before.now c.in-Some-Some.entry.now c.in-Some-Some.ensures.value c.in-Some-Some.ensures'.value c.requires.old c.requires.new (sym c.cmp.ensures ∙ c.in-Greater.is)

pub returns-then-eq : goal.returns-then-eq
returns-then-eq c =
    front_same c.args.old.now c.args.new.now c.in-Some-Some.before.now c.in-Some-Some.entry.now c.in-Some-Some.ensures.value c.in-Some-Some.ensures'.value c.requires.old c.requires.new (sym c.cmp.ensures ∙ c.in-Equal.is) (sym c.eq.ensures ∙ c.if-eq.true)

pub returns-else-eq : goal.returns-else-eq
returns-else-eq c =
    front_changed c.args.old.now c.args.new.now c.in-Some-Some.before.now c.in-Some-Some.entry.now c.in-Some-Some.ensures.value c.in-Some-Some.ensures'.value c.requires.old c.requires.new (sym c.cmp.ensures ∙ c.in-Equal.is) (sym c.eq.ensures ∙ c.if-eq.false)
