use Rattle.std.proofs.Common.{subst}
use Rattle.std.proofs.lemmas.List.Elements.{All-more}
use Rattle.dmn_tx.specs.Tx.{tx_out}
use Rattle.dmn_restore.proofs.Steps.{all_taken}
use Rattle.dmn_restore.proofs.forms.outputs_fit.Goals as goal

pub loop-place-preserved : goal.loop-place-preserved
loop-place-preserved c = All-more tx_out.Fits c.args.outputs.now c.loop-place.place c.index-outputs-place.result c.loop-place-test.true c.loop-place.invariant (subst tx_out.Fits c.index-outputs-place.is c.output_fits.ensures)

pub returns-clause-all : goal.returns-clause-all
returns-clause-all c = all_taken tx_out.Fits c.args.outputs.now c.loop-place.place c.loop-place-test.false c.loop-place.invariant
