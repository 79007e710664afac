use Rattle.std.proofs.Common.{Err, ◌∙◌}
use Rattle.std.proofs.lemmas.Result.{err_from_is_err_and}
use Rattle.dmn_make.specs.Going.{beginning, made}
use Rattle.dmn_make.specs.declared.fault.MakeFault.TheVariants as faults
use Rattle.dmn_make.proofs.Ending.{is_end, not_begun, opened_way, runs_all, stopped, stopped_way, taken_all, whole_way}
use Rattle.dmn_make.proofs.Fitting.{all_same, disk_then, never_err, never_then}
use Rattle.dmn_make.proofs.Heights.{steps_heights}
use Rattle.dmn_make.proofs.making.run_all.Goals as goal

pub returns-in_err-steps-clause-moments : goal.returns-in_err-steps-clause-moments
returns-in_err-steps-clause-moments g c = λ tells known. not_begun c.args.count _ _ (g.D.Device.past_is_over c.args.disk.now) known

pub returns-in_err-maker-clause-moments : goal.returns-in_err-maker-clause-moments
returns-in_err-maker-clause-moments g c = λ tells known. opened_way c.args.count _ _ _ (c.open.ensures.moments known)

pub take_steps-requires-clause-heights : goal.take_steps-requires-clause-heights
take_steps-requires-clause-heights g c = steps_heights c.deref.result.now (c.deref.ensures.value ∙ c.in_ok-steps.ensures)

pub returns-in_err-take_steps-clause-moments : goal.returns-in_err-take_steps-clause-moments
returns-in_err-take_steps-clause-moments g c = λ tells known.
    let halted = stopped (Unit {0}) c.in_err-take_steps.field-0.0 c.args.count _ _ _ _ _ _ _ c.in_ok-maker.ensures.count (c.deref.ensures.value ∙ c.in_ok-steps.ensures) (c.in_err-take_steps.ensures.takes tells) (c.in_ok-maker.ensures.opened tells known) in
    stopped_way c.args.count _ _ _ _ _ c.open.ensures.time (c.open.ensures.moments known) halted

pub returns-clause-runs : goal.returns-clause-runs
returns-clause-runs g c = λ tells known.
    let taken = taken_all (Unit {0}) c.in_ok-take_steps.field-0 c.args.count _ _ _ _ _ _ _ c.in_ok-maker.ensures.count (c.deref.ensures.value ∙ c.in_ok-steps.ensures) (c.in_ok-take_steps.ensures.takes tells) (c.in_ok-maker.ensures.opened tells known) in
    let end = is_end _ (made c.args.count).machine _ (g.D.Device.as_much c.take_steps.new.disk).reads tells (record { at = taken.goes.on.stands; mark = taken.goes.mark }) in
    runs_all c.finish.result c.args.count c.pages_of-pages.result _ (c.pages_of-pages.ensures ∙ taken.pages) (c.finish.ensures.ends tells (made c.args.count).machine end)

pub returns-clause-moments : goal.returns-clause-moments
returns-clause-moments g c = λ tells known.
    let taken = taken_all (Unit {0}) c.in_ok-take_steps.field-0 c.args.count _ _ _ _ _ _ _ c.in_ok-maker.ensures.count (c.deref.ensures.value ∙ c.in_ok-steps.ensures) (c.in_ok-take_steps.ensures.takes tells) (c.in_ok-maker.ensures.opened tells known) in
    let end = is_end _ (made c.args.count).machine _ (g.D.Device.as_much c.take_steps.new.disk).reads tells (record { at = taken.goes.on.stands; mark = taken.goes.mark }) in
    whole_way c.args.count _ _ _ _ _ _ _ _ c.open.ensures.time c.take_steps.ensures.time (c.open.ensures.moments known) taken (c.finish.ensures.moments (made c.args.count).machine end.own)

pub returns-in_err-take_steps-clause-sure : goal.returns-in_err-take_steps-clause-sure
returns-in_err-take_steps-clause-sure g c = λ tells told known enough.
    let p = err_from_is_err_and c.from_residual-in_err-take_steps.result c.from_residual-in_err-take_steps.ensures.1 in
    let first = (c.in_ok-maker.ensures.sure told).disk in
    let second = c.in_err-take_steps.ensures.sure tells told beginning (c.in_ok-maker.ensures.opened tells known) (all_same c.args.count _ _ (g.D.Device.disk c.args.disk.now).room (g.D.Device.disk c.open.new.disk).room c.in_ok-maker.ensures.count (c.deref.ensures.value ∙ c.in_ok-steps.ensures) first.room enough) in
    rw (p.1, p.2) (never_err c.in_err-take_steps.field-0.0 faults.DiskFault _ _
    (never_then {T = Unit {0}} (Err c.in_err-take_steps.field-0.0) faults.DiskFault (g.D.Device.disk c.args.disk.now) (g.D.Device.disk c.open.new.disk) (g.D.Device.disk c.take_steps.new.disk) first second))

pub returns-clause-sure : goal.returns-clause-sure
returns-clause-sure g c = λ tells told known enough.
    let first = (c.in_ok-maker.ensures.sure told).disk in
    let second = (c.in_ok-take_steps.ensures.sure tells told beginning (c.in_ok-maker.ensures.opened tells known) (all_same c.args.count _ _ (g.D.Device.disk c.args.disk.now).room (g.D.Device.disk c.open.new.disk).room c.in_ok-maker.ensures.count (c.deref.ensures.value ∙ c.in_ok-steps.ensures) first.room enough)).disk in
    never_then c.finish.result faults.DiskFault (g.D.Device.disk c.args.disk.now) (g.D.Device.disk c.take_steps.new.disk) (g.D.Device.disk c.finish.new.disk)
    (disk_then (g.D.Device.disk c.args.disk.now) (g.D.Device.disk c.open.new.disk) (g.D.Device.disk c.take_steps.new.disk) first second) (c.finish.ensures.sure told)
