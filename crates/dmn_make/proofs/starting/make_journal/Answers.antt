use Rattle.std.proofs.Common.{◌≡◌, length, ap, arith, ◌∙◌}
use Rattle.dmn_generator.specs.Blocks.{start}
use Rattle.dmn_init.proofs.Starting.{never_blank}
use Rattle.dmn_rows.specs.Defs.{start_text}
use Rattle.dmn_make.proofs.Beginning.{err_is, made_begun, making, none_made, not_made, text_short}
use Rattle.dmn_make.proofs.Fitting.{disk_then}
use Rattle.dmn_make.proofs.starting.make_journal.Goals as goal

pub returns-in-Err-clause-moments : goal.returns-in-Err-clause-moments
returns-in-Err-clause-moments g c = λ blank. none_made _ _ _ (g.D.Device.past_is_over c.args.disk.now) c.is_blank.ensures.disk blank

pub returns-in_default-clause-moments : goal.returns-in_default-clause-moments
returns-in_default-clause-moments g c = λ blank. none_made _ _ _ (g.D.Device.past_is_over c.args.disk.now) c.is_blank.ensures.disk blank

pub returns-in-Ok-false-clause-moments : goal.returns-in-Ok-false-clause-moments
returns-in-Ok-false-clause-moments g c = λ blank. none_made _ _ _ (g.D.Device.past_is_over c.args.disk.now) c.is_blank.ensures.disk blank

pub make-requires : goal.make-requires
make-requires g c = text_short c.as_slice.result.now (c.as_slice.ensures ∙ c.in-Ok.ensures)

pub returns-in-Done-clause-made : goal.returns-in-Done-clause-made
returns-in-Done-clause-made g c = (rw c.in-Ok-true.field-0-test at c.in-Ok-true.ensures.blank, made_begun c.as_slice.result.now _ (c.as_slice.ensures ∙ c.in-Ok.ensures) c.in-Done.ensures.makes)

pub returns-in-Done-clause-moments : goal.returns-in-Done-clause-moments
returns-in-Done-clause-moments g c = λ blank. making c.as_slice.result.now _ _ _ _ _ (c.as_slice.ensures ∙ c.in-Ok.ensures) c.is_blank.ensures.time (g.D.Device.past_is_over c.args.disk.now) c.is_blank.ensures.disk blank c.make.ensures.moments

pub returns : goal.returns
returns g c =
    let is : c.as_slice.result.now ≡ start_text start = c.as_slice.ensures ∙ c.in-Ok.ensures in
    record {
      made = not_made (Unit {0}) c.make.result c.as_slice.result.now _ _ c.in_default-make.not-Done is c.make.ensures.status c.make.ensures.makes (rw c.in-Ok-true.field-0-test at c.in-Ok-true.ensures.blank);
      kept = λ held. absurd (never_blank (g.D.Device.disk c.args.disk.now).told held (rw c.in-Ok-true.field-0-test at c.in-Ok-true.ensures.blank));
      moments = λ blank. making c.as_slice.result.now _ _ _ _ _ is c.is_blank.ensures.time (g.D.Device.past_is_over c.args.disk.now) c.is_blank.ensures.disk blank c.make.ensures.moments;
      line = c.make.ensures.line ∙ c.is_blank.ensures.line;
      room = c.make.ensures.room ∙ c.is_blank.ensures.room;
      time = omega (arith, c.make.ensures.time, c.is_blank.ensures.time);
      later = omega (arith, c.make.ensures.later, c.is_blank.ensures.cause.later);
      fault = λ e. omega (arith, c.is_blank.ensures.cause.later, c.make.ensures.fault (err_is (Unit {0}) _ _ e));
      sure = λ told enough.
          let first = c.in-Ok-true.ensures.sure told in
          let second = c.make.ensures.sure told (omega (arith, enough, ap length is, first.room)) in
          record { disk = disk_then _ _ _ first second.disk; answer = λ e. second.runs (err_is (Unit {0}) _ _ e) };
    }
