use Rattle.std.proofs.lemmas.List.Elements.{All-more, All-nil}
use Rattle.dmn_restore.specs.Formed.{HasFormedPay}
use Rattle.dmn_restore.proofs.Steps.{all_taken, no_output}
use Rattle.dmn_restore.proofs.fields.check_outputs.Goals as goal

pub loop-place-init : goal.loop-place-init
loop-place-init c = All-nil HasFormedPay

pub loop-place-preserved : goal.loop-place-preserved
loop-place-preserved c = All-more HasFormedPay c.args.outputs.now c.loop-place.place no_output c.loop-place-test.true c.loop-place.invariant (c.is_formed.ensures c.if-not-is_formed.false)

pub returns : goal.returns
returns c = all_taken HasFormedPay c.args.outputs.now c.loop-place.place c.loop-place-test.false c.loop-place.invariant
