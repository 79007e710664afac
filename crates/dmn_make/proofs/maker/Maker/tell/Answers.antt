use Rattle.std.proofs.Common.{◌∙◌}
use Rattle.std.proofs.lemmas.Result.{err_from_is_err_and}
use Rattle.dmn_desk.specs.Ask.{ask}
use Rattle.dmn_registry.specs.Machine.{Machine}
use Rattle.dmn_make.specs.Going.{telling}
use Rattle.dmn_make.proofs.Taken.{step_fails, step_goes, tell_lacks, tell_more, tell_same}
use Rattle.dmn_make.proofs.maker.Maker.tell.Goals as goal

pub returns-in_err-answer-clause-takes : goal.returns-in_err-answer-clause-takes
returns-in_err-answer-clause-takes g c = λ tells.
    let p = err_from_is_err_and c.from_residual.result c.from_residual.ensures.1 in
    rw (p.1, p.2) (step_fails (λ (m : Machine). (ask m (telling c.args.from)).1) c.args.self.now.count _ _ _ _ c.args.self.now (record { office = c.ask.new.office; count = c.args.self.now.count; pages = c.args.self.now.pages })
    (λ h at. tell_same c.args.self.now.count c.args.from h)
    c.in_err-answer.field-0.0 (c.in_err-answer.ensures.does tells))

pub returns-in_err-add_page-clause-takes : goal.returns-in_err-add_page-clause-takes
returns-in_err-add_page-clause-takes g c = λ tells.
    let p = err_from_is_err_and c.from_residual-in_err-add_page.result c.from_residual-in_err-add_page.ensures.1 in
    rw (p.1, p.2) (λ h at. tell_lacks (g.D.Device.time c.args.disk.now) (g.D.Device.disk c.args.disk.now) (g.D.Device.disk c.ask.new.disk) c.args.self.now.count c.args.from h c.ask.new.office
    (c.in_ok-answer.ensures.does tells h.machine at.office))

pub returns-clause-takes : goal.returns-clause-takes
returns-clause-takes g c = λ tells.
    step_goes (λ (m : Machine). (ask m (telling c.args.from)).1) c.args.self.now.count _ _ _ _ c.args.self.now (record { office = c.ask.new.office; count = c.args.self.now.count; pages = c.add_page.new.pages })
    (λ h at. tell_same c.args.self.now.count c.args.from h)
    (λ h at. c.in_ok-add_page.ensures ∙ tell_more c.args.self.now.count c.args.from h c.in_ok-answer.answer c.args.self.now.pages at.pages (c.in_ok-answer.ensures.answers tells h.machine at.office))
    (c.in_ok-answer.ensures.does tells)
