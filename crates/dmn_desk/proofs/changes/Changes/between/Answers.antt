use Rattle.std.proofs.Common.{sym}
use Rattle.dmn_desk.proofs.Keeping.{copied_change, heights_eq, kept_promoted}
use Rattle.dmn_desk.proofs.changes.Changes.between.Goals as goal

pub returns-in-Some-clause-change : goal.returns-in-Some-clause-change
returns-in-Some-clause-change c = λ m stands are.
    copied_change m c.args.heights c.promote.new.self.entries c.in-Some.change.now c.copy_of.result
    (rw c.promote.ensures.entries (kept_promoted m (heights_eq c.args.heights) c.args.self.now.kept.entries are)) (sym c.in-Some.ensures) c.copy_of.ensures

pub returns-in-Some-clause-stay : goal.returns-in-Some-clause-stay
returns-in-Some-clause-stay c = λ m stands are. rw c.promote.ensures.entries (kept_promoted m (heights_eq c.args.heights) c.args.self.now.kept.entries are)

pub returns-in-None-clause-stay : goal.returns-in-None-clause-stay
returns-in-None-clause-stay c = λ m stands are. c.walk.ensures.stay m stands (rw c.promote.ensures.entries (kept_promoted m (heights_eq c.args.heights) c.args.self.now.kept.entries are))
