use Rattle.std.proofs.Common.{◌∙◌}
use Rattle.dmn_desk.specs.Ask.{list_of}
use Rattle.dmn_desk.proofs.Heights.{told_none}
use Rattle.dmn_desk.proofs.Listing.{lists}
use Rattle.dmn_desk.proofs.list.list_at.Goals as goal

pub returns-then-not-is_held-clause-answer : goal.returns-then-not-is_held-clause-answer
returns-then-not-is_held-clause-answer c = λ m stands. c.not_held.ensures ∙ told_none m c.tip-tip.result c.args.height (list_of c.args.height) (c.tip-tip.ensures.tip m stands) c.if-not-is_held.ensures

pub returns-clause-answer : goal.returns-clause-answer
returns-clause-answer c = λ m stands.
    rw (c.hash.ensures, c.root.ensures) (lists m c.tip-tip.result c.args.height c.list_at-rows.result c.in_ok-entries_of.field-0 (c.tip-tip.ensures.tip m stands) c.if-not-is_held.ensures (c.list_at-rows.ensures m stands) c.in_ok-entries_of.ensures)
