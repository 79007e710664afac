use Rattle.std.proofs.Common.{arith, sym}
use Rattle.dmn_feed.proofs.Standing.{kind_decided, long_decides, unknown_decides}
use Rattle.dmn_feed.proofs.answering.reading_of.Goals as goal

pub returns-then-size-gt-LONGEST_BODY : goal.returns-then-size-gt-LONGEST_BODY
returns-then-size-gt-LONGEST_BODY c = long_decides c.args.number c.args.size (omega arith)

pub returns-in-None : goal.returns-in-None
returns-in-None c = unknown_decides c.args.number c.args.size (sym c.in-None.ensures)

pub returns-in-Some : goal.returns-in-Some
returns-in-Some c = rw c.reading.ensures (kind_decided c.args.number c.args.size c.in-Some.kind (sym c.in-Some.ensures))
