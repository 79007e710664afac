use Rattle.std.proofs.Common.{◌≡◌, refl, sym}
use Rattle.std.specs.Prelude.{◌==◌, true, false}
use Rattle.std.proofs.lemmas.Bool.{eq-eqb, ne_eqb}
use Rattle.dmn_tx.specs.declared.kinds.TheConstants.{COMMITMENT_TX}
use Rattle.dmn_branch.specs.Drawn.{kind_asked}
use Rattle.dmn_branch.proofs.drawn.kind_asked.Goals as goal

pub returns-then-tx-eq-COMMITMENT_TX : goal.returns-then-tx-eq-COMMITMENT_TX
unfolding kind_asked
returns-then-tx-eq-COMMITMENT_TX c =
    let is : (c.args.tx.now.kind == COMMITMENT_TX) ≡ true = eq-eqb c.args.tx.now.kind COMMITMENT_TX c.if-tx-eq-COMMITMENT_TX.true in
    rw (is, sym c.as_slice.ensures) c.kind_in.ensures

pub returns-else-tx-eq-COMMITMENT_TX : goal.returns-else-tx-eq-COMMITMENT_TX
unfolding kind_asked
returns-else-tx-eq-COMMITMENT_TX c =
    let other : (c.args.tx.now.kind == COMMITMENT_TX) ≡ false = ne_eqb c.args.tx.now.kind COMMITMENT_TX c.if-tx-eq-COMMITMENT_TX.false in
    rw other refl
