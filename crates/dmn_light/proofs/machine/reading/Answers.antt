use Rattle.std.proofs.Common.{sym, arith}
use Rattle.dmn_light.proofs.Answering.{decides_known, decides_long, decides_unknown}
use Rattle.dmn_light.proofs.machine.reading.Goals as goal

pub returns-then-size-gt-LONGEST_BODY : goal.returns-then-size-gt-LONGEST_BODY
returns-then-size-gt-LONGEST_BODY c = decides_long c.args.number c.args.size (omega arith)

pub returns-in-None : goal.returns-in-None
returns-in-None c = decides_unknown c.args.number c.args.size (sym c.in-None.ensures)

pub returns-in-Some : goal.returns-in-Some
returns-in-Some c = rw c.reading.ensures (decides_known c.args.number c.args.size c.in-Some.kind (sym c.in-Some.ensures))
