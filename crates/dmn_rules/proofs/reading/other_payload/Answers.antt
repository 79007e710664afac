use Rattle.std.proofs.lemmas.Bool.{ne_eqb}
use Rattle.dmn_rules.proofs.Other.{unknown_type}
use Rattle.dmn_rules.proofs.reading.other_payload.Goals as goal

pub returns-else-kind-eq-COMMITMENT_TX-clause-rule : goal.returns-else-kind-eq-COMMITMENT_TX-clause-rule
returns-else-kind-eq-COMMITMENT_TX-clause-rule c = unknown_type c.args.kind c.args.payload.now c.requires.other (ne_eqb _ _ c.if-kind-eq-COMMITMENT_TX.false)
