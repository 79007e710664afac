use Rattle.dmn_outside.proofs.Passing.{later_then}
use Rattle.dmn_http.proofs.Writing.{front_first, then_sends, stamps_first, then_stamps, then_surely, surely_first}
use Rattle.dmn_http.proofs.write.send_both.Goals as goal

pub returns-in-Ok-clause-sends : goal.returns-in-Ok-clause-sends
returns-in-Ok-clause-sends g c = λ tells. then_sends _ _ _ _ _ _ (c.in-Ok.ensures.sends tells) (c.send_all-in-Ok.ensures.sends tells)

pub returns-in-Ok-clause-moments : goal.returns-in-Ok-clause-moments
returns-in-Ok-clause-moments g c = λ tells. then_stamps _ _ _ _ c.args.head.now c.args.body.now _ _ _ c.in-Ok.ensures.later.time c.send_all-in-Ok.ensures.later.time (c.in-Ok.ensures.moments tells) (c.send_all-in-Ok.ensures.moments tells)

pub returns-in-Ok-clause-later : goal.returns-in-Ok-clause-later
returns-in-Ok-clause-later g c = later_then c.in-Ok.ensures.later c.send_all-in-Ok.ensures.later

pub returns-in-Ok-clause-sure : goal.returns-in-Ok-clause-sure
returns-in-Ok-clause-sure g c = λ told. then_surely _ c.args.head.now c.args.body.now _ _ _ _ _ _ (c.in-Ok.ensures.sure told) (c.send_all-in-Ok.ensures.sure told)

pub returns-in-Err-clause-sends : goal.returns-in-Err-clause-sends
returns-in-Err-clause-sends g c = λ tells. front_first _ _ _ _ (c.in-Err.ensures.sends tells)

pub returns-in-Err-clause-moments : goal.returns-in-Err-clause-moments
returns-in-Err-clause-moments g c = λ tells. stamps_first _ _ c.args.head.now c.args.body.now _ _ (c.in-Err.ensures.moments tells)

pub returns-in-Err-clause-sure : goal.returns-in-Err-clause-sure
returns-in-Err-clause-sure g c = λ told. surely_first c.args.head.now c.args.body.now _ _ _ _ (c.in-Err.ensures.sure told)
