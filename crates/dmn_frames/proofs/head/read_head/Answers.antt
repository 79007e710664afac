use Rattle.std.proofs.Common.{arith}
use Rattle.std.proofs.lemmas.Result.{err_from_is_err_and}
use Rattle.dmn_frames.proofs.Heading.{headed, cut_short, none_left, faulted}
use Rattle.dmn_frames.proofs.head.read_head.Goals as goal

pub returns-in_err-n-clause-heads : goal.returns-in_err-n-clause-heads
returns-in_err-n-clause-heads g c = λ tells.
    let p = err_from_is_err_and c.from_residual.result c.from_residual.ensures.1 in
    rw p.1 (faulted _ _ _ (c.in_err-n.ensures.fills tells))

pub returns-then-n-eq0-clause-heads : goal.returns-then-n-eq0-clause-heads
returns-then-n-eq0-clause-heads g c = λ tells. none_left c.fill.new.buffer c.in_ok-n.n _ _ c.fill.auto.buffer c.if-n-eq0.true (c.in_ok-n.ensures.fills tells)

pub returns-then-n-lt5-clause-heads : goal.returns-then-n-lt5-clause-heads
returns-then-n-lt5-clause-heads g c = λ tells. cut_short c.fill.new.buffer c.in_ok-n.n _ _ c.fill.auto.buffer (omega arith) c.if-n-lt5.true (c.in_ok-n.ensures.fills tells)

pub returns-clause-heads : goal.returns-clause-heads
returns-clause-heads g c = λ tells. headed c.fill.new.buffer c.in_ok-n.n _ _ _ c.fill.auto.buffer c.if-n-lt5.false (omega (arith, c.in_ok-n.ensures.most)) c.from_le_bytes.ensures (c.in_ok-n.ensures.fills tells)
