use Rattle.std.proofs.lemmas.List.Elements.{All-more, All-nil}
use Rattle.dmn_held.specs.Row.{stored_row}
use Rattle.dmn_restore.proofs.Steps.{all_taken, no_row}
use Rattle.dmn_restore.proofs.fields.rows_fit.Goals as goal

pub loop-place-init : goal.loop-place-init
loop-place-init c = λ pays. All-nil stored_row.Fits

pub loop-place-preserved : goal.loop-place-preserved
loop-place-preserved c = λ pays. All-more stored_row.Fits c.args.rows.now c.loop-place.place no_row c.loop-place-test.true (c.loop-place.invariant pays) (c.row_fits.ensures (pays c.loop-place.place no_row c.loop-place-test.true))

pub returns : goal.returns
returns c = λ pays. all_taken stored_row.Fits c.args.rows.now c.loop-place.place c.loop-place-test.false (c.loop-place.invariant pays)
