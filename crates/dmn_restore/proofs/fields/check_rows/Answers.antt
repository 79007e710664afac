use Rattle.std.proofs.lemmas.List.Elements.{All-more, All-nil}
use Rattle.dmn_restore.specs.Formed.{HasFormedPays}
use Rattle.dmn_restore.proofs.Steps.{all_taken, no_row}
use Rattle.dmn_restore.proofs.fields.check_rows.Goals as goal

pub loop-place-init : goal.loop-place-init
loop-place-init c = All-nil HasFormedPays

pub loop-place-preserved : goal.loop-place-preserved
loop-place-preserved c = All-more HasFormedPays c.args.rows.now c.loop-place.place no_row c.loop-place-test.true c.loop-place.invariant (c.has_formed_pays.ensures c.if-not-has_formed_pays.false)

pub returns : goal.returns
returns c = all_taken HasFormedPays c.args.rows.now c.loop-place.place c.loop-place-test.false c.loop-place.invariant
