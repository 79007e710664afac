use Rattle.dmn_outside.proofs.Crash.{widened}
use Rattle.dmn_init.proofs.Starting.{blank_moments, made_image, made_rests}
use Rattle.dmn_init.proofs.making.make.Goals as goal

pub returns-in-Err-StartForm-clause-moments : goal.returns-in-Err-StartForm-clause-moments
returns-in-Err-StartForm-clause-moments g c = λ blank. blank_moments _ _ _ _ (g.D.Device.past_is_over c.args.disk.now) blank

pub returns-in-Err-Memory-clause-moments : goal.returns-in-Err-Memory-clause-moments
returns-in-Err-Memory-clause-moments g c = λ blank. blank_moments _ _ _ _ (g.D.Device.past_is_over c.args.disk.now) blank

pub returns-in-Ok-create-clause-makes : goal.returns-in-Ok-create-clause-makes
returns-in-Ok-create-clause-makes g c = made_rests c.args.text.now c.in-Ok.field-0 _ c.in-Ok.ensures.found c.in-Ok-create.ensures.done

pub returns-in-Ok-create-clause-moments : goal.returns-in-Ok-create-clause-moments
returns-in-Ok-create-clause-moments g c = λ blank. widened _ _ _ _ _ (c.create.ensures.moments blank) (λ image b. made_image c.args.text.now c.in-Ok.field-0 image c.in-Ok.ensures.found b)

pub returns-clause-moments : goal.returns-clause-moments
returns-clause-moments g c = λ blank. widened _ _ _ _ _ (c.create.ensures.moments blank) (λ image b. made_image c.args.text.now c.in-Ok.field-0 image c.in-Ok.ensures.found b)
