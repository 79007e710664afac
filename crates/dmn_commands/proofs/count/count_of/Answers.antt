use Rattle.std.proofs.Common.{arith, ap, sym, ◌∙◌, ◌≡◌, Ok}
use Rattle.std.proofs.lemmas.Slice.Eq.{bytes_eq-Decides}
use Rattle.std.specs.Fmt.{decimal}
use Rattle.dmn_commands.proofs.Counting.{count_none, count_some, decimal_parses}
use Rattle.dmn_commands.proofs.count.count_of.Goals as goal

pub returns-in_default : goal.returns-in_default
returns-in_default c = count_none c.args.most c.args.word.now (λ n some few is. c.in_default.not-Ok n (decimal_parses c.args.word.now n c.parse.result (omega arith) c.parse.ensures.value.0 is))

pub returns-then-count-eq0 : goal.returns-then-count-eq0
returns-then-count-eq0 c = count_none c.args.most c.args.word.now
    (λ n some few is.
    let r : c.parse.result ≡ Ok n = decimal_parses c.args.word.now n c.parse.result (omega arith) c.parse.ensures.value.0 is in
    let same : c.in-Ok.count ≡ n = cc in
    absurd (omega (arith, same, c.then-count-eq0.either)))

pub returns-then-eq : goal.returns-then-eq
returns-then-eq c = count_some c.args.most c.in-Ok.count c.args.word.now (sym ((bytes_eq-Decides c.format.result.now c.args.word.now).0 (sym c.if-eq.ensures)) ∙ c.format.ensures.text) (omega arith) (omega arith) (omega arith)

pub returns-else-eq : goal.returns-else-eq
returns-else-eq c = count_none c.args.most c.args.word.now
    (λ n some few is.
    let r : c.parse.result ≡ Ok n = decimal_parses c.args.word.now n c.parse.result (omega arith) c.parse.ensures.value.0 is in
    let same : c.in-Ok.count ≡ n = cc in
    let equal = (bytes_eq-Decides c.format.result.now c.args.word.now).1 (c.format.ensures.text ∙ ap decimal same ∙ sym is) in
    cc (equal, c.if-eq.ensures))
