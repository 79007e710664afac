use Rattle.dmn_head.proofs.Numbers.{numeral_is_text}
use Rattle.dmn_head.proofs.fields.size_of.Goals as goal

pub returns-in-Err : goal.returns-in-Err
returns-in-Err c = λ numeral. c.in-Err.ensures.cases.0 (numeral_is_text c.args.value.now numeral)
