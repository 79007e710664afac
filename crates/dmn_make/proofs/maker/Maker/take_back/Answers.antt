use Rattle.std.proofs.Common.{ap, sym, ◌∙◌}
use Rattle.std.proofs.lemmas.Result.{err_from_is_err_and}
use Rattle.dmn_desk.specs.Ask.{ask}
use Rattle.dmn_desk.specs.declared.request.Request.TheVariants as requests
use Rattle.dmn_registry.specs.Machine.{Machine, state_of}
use Rattle.dmn_make.specs.Going.{Going}
use Rattle.dmn_make.specs.declared.fault.MakeFault.TheVariants as faults
use Rattle.dmn_make.proofs.Fitting.{never_err, never_ok}
use Rattle.dmn_make.proofs.Taken.{back_is, back_same, place_back, step_fails, step_goes}
use Rattle.dmn_make.proofs.maker.Maker.take_back.Goals as goal

pub returns-in_err-ask-clause-takes : goal.returns-in_err-ask-clause-takes
returns-in_err-ask-clause-takes g c = λ tells.
    let p = err_from_is_err_and c.from_residual.result c.from_residual.ensures.1 in
    rw (p.1, p.2) (step_fails (λ (m : Machine). (ask m (requests.Disconnect c.tip.result.hash)).1) c.args.self.now.count _ _ _ _ c.args.self.now (record { office = c.ask.new.office; count = c.args.self.now.count; pages = c.args.self.now.pages })
    (λ h at. back_same c.tip.result c.args.self.now.count h (c.tip.ensures.tip (state_of h.machine) (rw c.branch-self.ensures at.office.at.registry.registry_stands.branch)))
    c.in_err-ask.field-0.0 (c.in_err-ask.ensures.does tells))

pub returns-clause-takes : goal.returns-clause-takes
returns-clause-takes g c = λ tells.
    step_goes (λ (m : Machine). (ask m (requests.Disconnect c.tip.result.hash)).1) c.args.self.now.count _ _ _ _ c.args.self.now (record { office = c.ask.new.office; count = c.args.self.now.count; pages = c.args.self.now.pages })
    (λ h at. back_same c.tip.result c.args.self.now.count h (c.tip.ensures.tip (state_of h.machine) (rw c.branch-self.ensures at.office.at.registry.registry_stands.branch)))
    (λ h at. at.pages ∙ ap (λ (k : Going). k.pages) (sym (back_is c.args.self.now.count h)))
    (c.in_ok-ask.ensures.does tells)

pub returns-in_err-ask-clause-sure : goal.returns-in_err-ask-clause-sure
returns-in_err-ask-clause-sure g c = λ told h at room.
    let p = err_from_is_err_and c.from_residual.result c.from_residual.ensures.1 in
    let place = place_back c.tip.result h.machine (g.D.Device.disk c.args.disk.now).room (c.tip.ensures.tip (state_of h.machine) (rw c.branch-self.ensures at.office.at.registry.registry_stands.branch)) room.journal in
    rw (p.1, p.2) (never_err c.in_err-ask.field-0.0 faults.DiskFault _ _ (c.in_err-ask.ensures.sure told h.machine at.office place room.snapshot))

pub returns-clause-sure : goal.returns-clause-sure
returns-clause-sure g c = λ told h at room.
    let place = place_back c.tip.result h.machine (g.D.Device.disk c.args.disk.now).room (c.tip.ensures.tip (state_of h.machine) (rw c.branch-self.ensures at.office.at.registry.registry_stands.branch)) room.journal in
    never_ok _ faults.DiskFault _ _ (c.in_ok-ask.ensures.sure told h.machine at.office place room.snapshot).disk
