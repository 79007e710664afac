use Rattle.std.proofs.Common.{◌∙◌, refl, arith}
use Rattle.std.proofs.lemmas.Result.{err_from_is_err_and}
use Rattle.dmn_make.specs.declared.fault.MakeFault.TheVariants as faults
use Rattle.dmn_make.proofs.Fitting.{never_err}
use Rattle.dmn_make.proofs.Taken.{next_fails, next_never, next_taken, none_taken}
use Rattle.dmn_make.proofs.maker.Maker.take_steps.Goals as goal

pub steps-init : goal.steps-init
steps-init g c = record {
  taken = λ tells from at. none_taken (g.D.Device.time c.args.disk.now) (g.D.Device.disk c.args.disk.now) from c.args.self.now (g.D.Device.past_is_over c.args.disk.now) at;
  sure = λ tells told from at enough. record { room = refl; faults = refl };
  count = refl;
  usable = c.requires.usable;
  line = refl;
  room = refl;
  time = omega arith;
  later = omega arith;
}

pub returns-in_err-take_step-clause-takes : goal.returns-in_err-take_step-clause-takes
returns-in_err-take_step-clause-takes g c = λ tells.
    let p = err_from_is_err_and c.from_residual.result c.from_residual.ensures.1 in
    rw (p.1, p.2) (next_fails (g.D.Device.time c.args.disk.now) (g.D.Device.time c.steps.disk) (g.D.Device.disk c.args.disk.now) (g.D.Device.disk c.steps.disk) (g.D.Device.disk c.take_step.new.disk)
    c.args.self.now.count c.steps.self.count c.steps.invariant.count c.args.steps.now c.steps.step-index _ (omega arith) c.args.self.now c.steps.self c.take_step.new.self
    c.steps.invariant.time (c.steps.invariant.taken tells) c.in_err-take_step.field-0.0 (c.in_err-take_step.ensures.takes tells))

pub steps-preserved : goal.steps-preserved
steps-preserved g c = record {
  taken = λ tells.
      next_taken (g.D.Device.time c.args.disk.now) (g.D.Device.time c.steps.disk) (g.D.Device.disk c.args.disk.now) (g.D.Device.disk c.steps.disk) (g.D.Device.disk c.take_step.new.disk)
      c.args.self.now.count c.steps.self.count c.steps.invariant.count c.args.steps.now c.steps.step-index _ (omega arith) c.args.self.now c.steps.self c.take_step.new.self
      c.steps.invariant.time (c.steps.invariant.taken tells) (c.in_ok-take_step.ensures.takes tells);
  sure = λ tells told from at enough.
      (next_never (g.D.Device.time c.args.disk.now) (g.D.Device.time c.steps.disk) (g.D.Device.disk c.args.disk.now) (g.D.Device.disk c.steps.disk) (g.D.Device.disk c.take_step.new.disk)
      c.args.self.now.count c.steps.self.count c.steps.invariant.count c.args.steps.now c.steps.step-index _ (omega arith) c.args.self.now c.steps.self c.take_step.new.self
      c.steps.invariant.time (c.steps.invariant.taken tells) (Unit {0}) _ from at enough
      (c.steps.invariant.sure tells told from at enough) (c.in_ok-take_step.ensures.sure tells told)).disk;
  count = c.in_ok-take_step.ensures.count ∙ c.steps.invariant.count;
  usable = c.in_ok-take_step.ensures.usable;
  line = c.in_ok-take_step.ensures.line ∙ c.steps.invariant.line;
  room = c.in_ok-take_step.ensures.room ∙ c.steps.invariant.room;
  time = omega (arith, c.steps.invariant.time, c.in_ok-take_step.ensures.time);
  later = omega (arith, c.steps.invariant.later, c.in_ok-take_step.ensures.later);
}

pub returns-in_err-take_step-clause-sure : goal.returns-in_err-take_step-clause-sure
returns-in_err-take_step-clause-sure g c = λ tells told from at enough.
    let p = err_from_is_err_and c.from_residual.result c.from_residual.ensures.1 in
    rw (p.1, p.2) (never_err c.in_err-take_step.field-0.0 faults.DiskFault _ _ (next_never (g.D.Device.time c.args.disk.now) (g.D.Device.time c.steps.disk) (g.D.Device.disk c.args.disk.now) (g.D.Device.disk c.steps.disk) (g.D.Device.disk c.take_step.new.disk)
    c.args.self.now.count c.steps.self.count c.steps.invariant.count c.args.steps.now c.steps.step-index _ (omega arith) c.args.self.now c.steps.self c.take_step.new.self
    c.steps.invariant.time (c.steps.invariant.taken tells) (Unit {0}) _ from at enough
    (c.steps.invariant.sure tells told from at enough) (c.in_err-take_step.ensures.sure tells told)))
