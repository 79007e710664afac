use Rattle.std.proofs.Common.{ap, ◌∙◌, sym, arith, ◌+◌, ℕ}
use Rattle.dmn_journal.proofs.Heads.{header_is, header_short}
use Rattle.dmn_journal.proofs.head.start_behind.Goals as goal

pub returns-in-Ok-clause-heads : goal.returns-in-Ok-clause-heads
returns-in-Ok-clause-heads g c = λ prefix.
    header_is _ c.args.size _ c.in_ok-text.text c.in-Ok.start prefix c.in-Ok.ensures.found.0 (sym c.as_slice.ensures ∙ c.in-Ok.ensures.found.1) (omega (arith, c.if-len-size.false, c.len.ensures)) c.in_ok-text.ensures.size (ap (λ (k : ℕ). 12 + k) c.from.ensures) c.in_ok-text.ensures.text

pub returns-then-len-size-clause-heads : goal.returns-then-len-size-clause-heads
returns-then-len-size-clause-heads g c = λ prefix. header_short _ c.args.size c.in_ok-text.text prefix (omega (arith, c.if-len-size.true, c.len.ensures)) c.in_ok-text.ensures.text
