use Rattle.std.proofs.Common.{sym, ap, ◌∙◌, arith}
use Rattle.dmn_quorums.specs.Forming.{missing_of}
use Rattle.dmn_quorums.proofs.First.{broken_here, broken_nowhere}
use Rattle.dmn_quorums.proofs.forming.missing.Goals as goal

pub returns-in-Some : goal.returns-in-Some
returns-in-Some c =
    sym (broken_here (missing_of c.args.kinds.now) c.args.formings.now c.loop-forming.forming-index c.forming-item.result c.missing_of.result c.in-Some.rule (omega arith) (c.missing_of.ensures ∙ ap (missing_of c.args.kinds.now) c.forming-item.is) c.in-Some.is)
    ∙ c.loop-forming.invariant

pub returns : goal.returns
returns c =
    sym (broken_nowhere (missing_of c.args.kinds.now) c.args.formings.now c.loop-forming.forming-index (omega arith))
    ∙ c.loop-forming.invariant
