use Rattle.std.proofs.Common.{ap, sym, ◌∙◌}
use Rattle.std.proofs.lemmas.Result.{err_from_is_err_and}
use Rattle.dmn_desk.specs.Ask.{ask}
use Rattle.dmn_desk.specs.declared.request.Request.TheVariants as requests
use Rattle.dmn_registry.specs.Machine.{Machine}
use Rattle.dmn_make.specs.Going.{Going, with_block}
use Rattle.dmn_make.specs.declared.fault.MakeFault.TheVariants as faults
use Rattle.dmn_make.proofs.Fitting.{never_ok}
use Rattle.dmn_make.proofs.Taken.{add_is, pin_is, step_does, step_fails, step_goes}
use Rattle.dmn_make.proofs.maker.Maker.take_step.Goals as goal

pub returns-in_err-ask-in-Pin-clause-takes : goal.returns-in_err-ask-in-Pin-clause-takes
returns-in_err-ask-in-Pin-clause-takes g c = λ tells.
    let p = err_from_is_err_and c.from_residual.result c.from_residual.ensures.1 in
    rw (c.in-Pin.is, p.1, p.2) (step_fails (λ (m : Machine). (ask m (requests.Pin c.in-Pin.height)).1) c.args.self.now.count _ _ _ _ c.args.self.now (record { office = c.ask.new.office; count = c.args.self.now.count; pages = c.args.self.now.pages })
    (λ h at. ap (λ (k : Going). k.machine) (sym (pin_is c.args.self.now.count c.in-Pin.height h)))
    c.in_err-ask-in-Pin.field-0.0 (c.in_err-ask-in-Pin.ensures.does tells))

pub returns-in-Add-clause-takes : goal.returns-in-Add-clause-takes
returns-in-Add-clause-takes g c = λ tells.
    rw c.in-Add.is (step_does (with_block c.args.self.now.count c.in-Add.chain c.in-Add.height) c.args.self.now.count _ _ _ _ c.args.self.now (record { office = c.add_block.new.office; count = c.args.self.now.count; pages = c.args.self.now.pages })
    (λ h at. ap (λ (k : Going). k.machine) (sym (add_is c.args.self.now.count c.in-Add.chain c.in-Add.height h)))
    c.add_block.result
    (λ h at. at.pages ∙ ap (λ (k : Going). k.pages) (sym (add_is c.args.self.now.count c.in-Add.chain c.in-Add.height h)))
    (c.add_block.ensures.does tells))

pub returns-in_ok-ask-in-Pin-clause-takes : goal.returns-in_ok-ask-in-Pin-clause-takes
returns-in_ok-ask-in-Pin-clause-takes g c = λ tells.
    rw c.in-Pin.is (step_goes (λ (m : Machine). (ask m (requests.Pin c.in-Pin.height)).1) c.args.self.now.count _ _ _ _ c.args.self.now (record { office = c.ask.new.office; count = c.args.self.now.count; pages = c.args.self.now.pages })
    (λ h at. ap (λ (k : Going). k.machine) (sym (pin_is c.args.self.now.count c.in-Pin.height h)))
    (λ h at. at.pages ∙ ap (λ (k : Going). k.pages) (sym (pin_is c.args.self.now.count c.in-Pin.height h)))
    (c.in_ok-ask-in-Pin.ensures.does tells))

pub returns-in_ok-ask-in-Pin-clause-sure : goal.returns-in_ok-ask-in-Pin-clause-sure
returns-in_ok-ask-in-Pin-clause-sure g c = λ tells told h at room. never_ok _ faults.DiskFault _ _ (c.in_ok-ask-in-Pin.ensures.sure told h.machine at.office tt room.snapshot).disk
