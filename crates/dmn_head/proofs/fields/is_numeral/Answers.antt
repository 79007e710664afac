use Rattle.dmn_head.proofs.Numbers.{numeral_test, some_bytes}
use Rattle.dmn_head.proofs.fields.is_numeral.Goals as goal

pub returns : goal.returns
returns c = numeral_test c.all_digits.result c.args.value.now (some_bytes c.args.value.now c.if-is_empty.ensures) c.all_digits.ensures
