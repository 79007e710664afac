use Rattle.dmn_rules.proofs.Other.{other_judges, other_effect}
use Rattle.dmn_rules.proofs.reading.read_other.Goals as goal

pub returns-clause-rule : goal.returns-clause-rule
returns-clause-rule c = λ profile rows outputs height verdict. other_judges profile rows outputs height c.args.tx.now verdict c.other_payload.result c.requires.other (rw c.as_slice.ensures at c.other_payload.ensures.rule)

pub returns-clause-none : goal.returns-clause-none
returns-clause-none c = λ rows outputs height. other_effect rows outputs c.args.tx.now height c.requires.other
