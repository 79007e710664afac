use Rattle.std.proofs.Common.{◌∙◌, sym}
use Rattle.dmn_desk.specs.Asked.{entry_by}
use Rattle.dmn_make.specs.declared.fault.MakeFault.TheVariants as faults
use Rattle.dmn_make.proofs.Asked.{request_fails, request_goes, request_lacks}
use Rattle.dmn_make.proofs.Fitting.{holds_entry, holds_snapshot, never_ok}
use Rattle.dmn_make.proofs.asking.ask.Goals as goal

pub returns-in-Err-clause-does : goal.returns-in-Err-clause-does
returns-in-Err-clause-does g c = λ tells m stands. request_fails _ _ _ m c.args.request.now c.requires.request (c.in-Err.ensures.gives m stands.at)

pub returns-then-is_memory-clause-does : goal.returns-then-is_memory-clause-does
returns-then-is_memory-clause-does g c = λ tells m stands. request_lacks _ _ _ m c.args.office.now c.answer.new.self c.args.request.now ((g.D.Device.as_much c.answer.new.disk).reads ∙ tells) stands c.in-Ok.answer c.in-Ok.ensures.gives

pub returns-else-is_memory-clause-does : goal.returns-else-is_memory-clause-does
returns-else-is_memory-clause-does g c = λ tells m stands.
    (request_goes _ _ _ m c.args.office.now c.answer.new.self c.args.request.now ((g.D.Device.as_much c.answer.new.disk).reads ∙ tells) stands c.in-Ok.answer (sym c.if-is_memory.ensures) c.in-Ok.ensures.gives (c.in-Ok.ensures.mark m stands.at.registry)).0

pub returns-else-is_memory-clause-answers : goal.returns-else-is_memory-clause-answers
returns-else-is_memory-clause-answers g c = λ tells m stands.
    (request_goes _ _ _ m c.args.office.now c.answer.new.self c.args.request.now ((g.D.Device.as_much c.answer.new.disk).reads ∙ tells) stands c.in-Ok.answer (sym c.if-is_memory.ensures) c.in-Ok.ensures.gives (c.in-Ok.ensures.mark m stands.at.registry)).1

pub returns-in-Err-clause-sure : goal.returns-in-Err-clause-sure
returns-in-Err-clause-sure g c = λ told m stands place fits. absurd (c.in-Err.ensures.sure told (holds_entry c.args.office.now m _ (entry_by c.args.request.now) (g.D.Device.disk c.args.disk.now).room stands place) (holds_snapshot c.args.office.now m _ (g.D.Device.disk c.args.disk.now).room stands fits))

pub returns-then-is_memory-clause-sure : goal.returns-then-is_memory-clause-sure
returns-then-is_memory-clause-sure g c = λ told m stands place fits. record {
  disk = c.in-Ok.ensures.sure told (holds_entry c.args.office.now m _ (entry_by c.args.request.now) (g.D.Device.disk c.args.disk.now).room stands place) (holds_snapshot c.args.office.now m _ (g.D.Device.disk c.args.disk.now).room stands fits);
  answer = λ is. cc;
}

pub returns-else-is_memory-clause-sure : goal.returns-else-is_memory-clause-sure
returns-else-is_memory-clause-sure g c = λ told m stands place fits.
    never_ok c.in-Ok.answer faults.DiskFault _ _ (c.in-Ok.ensures.sure told (holds_entry c.args.office.now m _ (entry_by c.args.request.now) (g.D.Device.disk c.args.disk.now).room stands place) (holds_snapshot c.args.office.now m _ (g.D.Device.disk c.args.disk.now).room stands fits))
