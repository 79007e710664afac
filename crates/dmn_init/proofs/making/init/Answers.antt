use Rattle.std.proofs.Common.{◌≡◌, ◌≤◌, length, take, drop, subst, sym, ap, arith, ◌∙◌}
use Rattle.std.proofs.lemmas.List.{length-take}
use Rattle.dmn_outside.specs.Changes.{OnlyReads}
use Rattle.dmn_outside.specs.Disk.{DiskView}
use Rattle.dmn_outside.specs.Line.{LineView}
use Rattle.dmn_init.specs.declared.input.TheConstants.{MOST_READ}
use Rattle.dmn_init.proofs.Starting.{init_made, made_well, never_blank, no_line_fault, starts_input, still_blank, then_made}
use Rattle.dmn_init.proofs.making.init.Goals as goal

pub returns-in-Err-clause-moments : goal.returns-in-Err-clause-moments
returns-in-Err-clause-moments g c = λ blank. still_blank _ _ _ _ _ (g.T.Device.past_is_over c.args.station.now) c.is_blank.ensures.disk blank

pub returns-in-Ok-false-clause-moments : goal.returns-in-Ok-false-clause-moments
returns-in-Ok-false-clause-moments g c = λ blank. still_blank _ _ _ _ _ (g.T.Device.past_is_over c.args.station.now) c.is_blank.ensures.disk blank

pub returns-in-Err-LineFault-clause-moments : goal.returns-in-Err-LineFault-clause-moments
returns-in-Err-LineFault-clause-moments g c = λ blank. still_blank _ _ _ _ _ (g.T.Device.past_is_over c.args.station.now) (subst (λ (d : DiskView). OnlyReads (g.T.Device.disk c.args.station.now) d) (sym c.read_input.ensures.disk) c.is_blank.ensures.disk) blank

pub returns-in-Err-Memory-clause-moments : goal.returns-in-Err-Memory-clause-moments
returns-in-Err-Memory-clause-moments g c = λ blank. still_blank _ _ _ _ _ (g.T.Device.past_is_over c.args.station.now) (subst (λ (d : DiskView). OnlyReads (g.T.Device.disk c.args.station.now) d) (sym c.read_input.ensures.disk) c.is_blank.ensures.disk) blank

pub returns-in-Ok-clause-outcome : goal.returns-in-Ok-clause-outcome
returns-in-Ok-clause-outcome g c = λ tells.
    let i = c.in-Ok.ensures.input tells in
    let is : c.as_slice.result.now ≡ take MOST_READ (g.T.Device.line c.args.station.now).talk.left = c.as_slice.ensures ∙ i.0 ∙ ap (λ (v : LineView). take MOST_READ v.talk.left) c.is_blank.ensures.line in
    let read : (g.T.Device.line c.make.new.disk).talk ≡ record (g.T.Device.line c.args.station.now).talk { left = drop MOST_READ (g.T.Device.line c.args.station.now).talk.left } =
    ap (λ (v : LineView). v.talk) c.make.ensures.line ∙ i.1 ∙ ap (λ (v : LineView). record v.talk { left = drop MOST_READ v.talk.left }) c.is_blank.ensures.line in
    init_made c.make.result _ _ c.as_slice.result.now _ _ c.make.ensures.status c.make.ensures.makes (rw c.in-Ok-true.field-0-test at c.in-Ok-true.ensures.blank) is read

pub returns-in-Ok-clause-moments : goal.returns-in-Ok-clause-moments
returns-in-Ok-clause-moments g c = λ blank.
    let le : g.T.Device.time c.args.station.now ≤ g.T.Device.time c.read_input.new.line = omega (arith, c.is_blank.ensures.time, c.read_input.ensures.quiet.time) in
    then_made g.T.Device.tells c.as_slice.result.now (g.T.Device.line c.args.station.now).talk.left _ _ _ _ _
    (λ tells start of. starts_input c.as_slice.result.now _ start (c.as_slice.ensures ∙ (c.in-Ok.ensures.input tells).0 ∙ ap (λ (v : LineView). take MOST_READ v.talk.left) c.is_blank.ensures.line) of)
    le (g.T.Device.past_is_over c.args.station.now) (subst (λ (d : DiskView). OnlyReads (g.T.Device.disk c.args.station.now) d) (sym c.read_input.ensures.disk) c.is_blank.ensures.disk) blank c.make.ensures.moments

pub returns-in-Ok-clause-complete : goal.returns-in-Ok-clause-complete
returns-in-Ok-clause-complete g c = λ tells blank start of no_disk no_line.
    let is : c.as_slice.result.now ≡ take MOST_READ (g.T.Device.line c.args.station.now).talk.left = c.as_slice.ensures ∙ (c.in-Ok.ensures.input tells).0 ∙ ap (λ (v : LineView). take MOST_READ v.talk.left) c.is_blank.ensures.line in
    let same : (g.T.Device.disk c.read_input.new.line).faults ≡ (g.T.Device.disk c.is_blank.new.disk).faults = ap (λ (d : DiskView). d.faults) c.read_input.ensures.disk in
    made_well c.make.result _ c.as_slice.result.now _ start c.make.ensures.status c.make.ensures.makes (λ is_fault. no_disk (omega (arith, same, c.is_blank.ensures.cause.later, c.make.ensures.fault is_fault))) is of

pub returns-in-Ok-clause-sure : goal.returns-in-Ok-clause-sure
returns-in-Ok-clause-sure g c = λ tells told enough.
    let is : c.as_slice.result.now ≡ take MOST_READ (g.T.Device.line c.args.station.now).talk.left = c.as_slice.ensures ∙ (c.in-Ok.ensures.input tells).0 ∙ ap (λ (v : LineView). take MOST_READ v.talk.left) c.is_blank.ensures.line in
    let first = c.in-Ok-true.ensures.sure told in
    let second = c.in-Ok.ensures.sure told in
    let same : g.T.Device.disk c.read_input.new.line ≡ g.T.Device.disk c.is_blank.new.disk = c.read_input.ensures.disk in
    let third = c.make.ensures.sure told (omega (arith, enough, ap length is, length-take MOST_READ (g.T.Device.line c.args.station.now).talk.left, ap (λ (d : DiskView). d.room) same, first.room)) in
    record {
      disk = record { room = third.disk.room ∙ ap (λ (d : DiskView). d.room) same ∙ first.room; faults = third.disk.faults ∙ ap (λ (d : DiskView). d.faults) same ∙ first.faults };
      line = ap (λ (v : LineView). v.faults) c.make.ensures.line ∙ second.faults ∙ ap (λ (v : LineView). v.faults) c.is_blank.ensures.line;
      no_disk_fault = third.runs;
      no_line_fault = λ e. no_line_fault c.make.result c.make.ensures.status e;
    }

pub returns-in-Ok-clause-kept : goal.returns-in-Ok-clause-kept
returns-in-Ok-clause-kept g c = λ held. absurd (never_blank (g.T.Device.disk c.args.station.now).told held (rw c.in-Ok-true.field-0-test at c.in-Ok-true.ensures.blank))
