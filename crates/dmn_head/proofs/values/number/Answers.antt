use Rattle.std.proofs.Common.{arith, sym, ap, ◌∙◌, ◌≡◌, Ok, decimal}
use Rattle.std.proofs.lemmas.Slice.Eq.{bytes_eq-Decides}
use Rattle.dmn_head.proofs.Numbers.{decimal_is_text, decimal_parses}
use Rattle.dmn_head.proofs.values.number.Goals as goal

pub returns-in_default-clause-value : goal.returns-in_default-clause-value
returns-in_default-clause-value c = λ n le e. c.in_default.ensures.cases.0 (decimal_is_text c.args.text.now n (omega arith) e)

pub returns-in_default-parse-clause-value : goal.returns-in_default-parse-clause-value
returns-in_default-parse-clause-value c = λ n le e.
    let r : c.parse.result ≡ Ok n = decimal_parses c.args.text.now n c.parse.result (omega arith) (rw c.in-Ok.ensures.cases.0 at c.parse.ensures.value.0) e in
    cc

pub returns-then-n-most-clause-value : goal.returns-then-n-most-clause-value
returns-then-n-most-clause-value c = λ n le e.
    let r : c.parse.result ≡ Ok n = decimal_parses c.args.text.now n c.parse.result (omega arith) (rw c.in-Ok.ensures.cases.0 at c.parse.ensures.value.0) e in
    let same : c.in-Ok-parse.n ≡ n = cc in
    omega (arith, same)

pub returns-else-eq-clause-value : goal.returns-else-eq-clause-value
returns-else-eq-clause-value c = λ n le e.
    let r : c.parse.result ≡ Ok n = decimal_parses c.args.text.now n c.parse.result (omega arith) (rw c.in-Ok.ensures.cases.0 at c.parse.ensures.value.0) e in
    let same : c.in-Ok-parse.n ≡ n = cc in
    let equal = (bytes_eq-Decides c.as_bytes-written.result.now c.args.text.now).1 (c.as_bytes-written.ensures.value ∙ c.format.ensures.text ∙ ap decimal same ∙ sym e) in
    cc (equal, c.if-eq.ensures)
