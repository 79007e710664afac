use Rattle.std.proofs.Common.{inl, inr, refl, sym, ap, subst, ◌∙◌, arith, length, ℕ, Err}
use Rattle.dmn_generator.specs.Blocks.{start}
use Rattle.dmn_outside.specs.Disk.{DiskView}
use Rattle.dmn_outside.specs.Failing.{KeepsDisk}
use Rattle.dmn_outside.specs.Line.{LineView}
use Rattle.dmn_registry.specs.Machine.{begun}
use Rattle.dmn_registry.specs.Own.{IsOwn}
use Rattle.dmn_make.specs.Going.{beginning}
use Rattle.dmn_make.specs.Room.{HasRoomForAll}
use Rattle.dmn_make.specs.Steps.{all_steps}
use Rattle.dmn_make.proofs.Ending.{known_of}
use Rattle.dmn_make.proofs.Fitting.{begins, disk_then, ends_unmade, text_fits}
use Rattle.dmn_make.proofs.Whole.{journal_way, run_way, sent_way, unsent}
use Rattle.dmn_make.proofs.making.make.Goals as goal

pub returns-in-Err-clause-moments : goal.returns-in-Err-clause-moments
returns-in-Err-clause-moments g c = λ tells blank. journal_way c.args.count _ _ _ (c.make_journal.ensures.moments blank)

pub returns-in-Err-Memory-clause-moments : goal.returns-in-Err-Memory-clause-moments
returns-in-Err-Memory-clause-moments g c = λ tells blank. run_way c.args.count _ _ _ _ _ c.make_journal.ensures.time ((g.T.Device.as_much c.make_journal.new.disk).reads ∙ tells) c.in-Ok.ensures.made.1 (c.make_journal.ensures.moments blank) (c.run_all.ensures.moments tells)

pub returns-in-Err-DiskFault-clause-moments : goal.returns-in-Err-DiskFault-clause-moments
returns-in-Err-DiskFault-clause-moments g c = λ tells blank. run_way c.args.count _ _ _ _ _ c.make_journal.ensures.time ((g.T.Device.as_much c.make_journal.new.disk).reads ∙ tells) c.in-Ok.ensures.made.1 (c.make_journal.ensures.moments blank) (c.run_all.ensures.moments tells)

pub returns-in-Err-NotJournal-clause-moments : goal.returns-in-Err-NotJournal-clause-moments
returns-in-Err-NotJournal-clause-moments g c = λ tells blank. run_way c.args.count _ _ _ _ _ c.make_journal.ensures.time ((g.T.Device.as_much c.make_journal.new.disk).reads ∙ tells) c.in-Ok.ensures.made.1 (c.make_journal.ensures.moments blank) (c.run_all.ensures.moments tells)

pub returns-in-Ok-send_all-clause-moments : goal.returns-in-Ok-send_all-clause-moments
returns-in-Ok-send_all-clause-moments g c = λ tells blank.
    sent_way c.args.count _ _ (g.T.Device.disk c.run_all.new.disk) (g.T.Device.disk c.send_all.new.line) c.send_all.ensures.disk
    (run_way c.args.count _ _ _ _ _ c.make_journal.ensures.time ((g.T.Device.as_much c.make_journal.new.disk).reads ∙ tells) c.in-Ok.ensures.made.1 (c.make_journal.ensures.moments blank) (c.run_all.ensures.moments tells))

pub returns-clause-moments : goal.returns-clause-moments
returns-clause-moments g c = λ tells blank.
    sent_way c.args.count _ _ (g.T.Device.disk c.run_all.new.disk) (g.T.Device.disk c.send_all.new.line) c.send_all.ensures.disk
    (run_way c.args.count _ _ _ _ _ c.make_journal.ensures.time ((g.T.Device.as_much c.make_journal.new.disk).reads ∙ tells) c.in-Ok.ensures.made.1 (c.make_journal.ensures.moments blank) (c.run_all.ensures.moments tells))

pub returns-in-Err-clause-later : goal.returns-in-Err-clause-later
returns-in-Err-clause-later g c = unsent g.T.Device.tells_moments _ _ _ _ c.make_journal.ensures.time c.make_journal.ensures.line

pub returns-in-Err-Memory-clause-later : goal.returns-in-Err-Memory-clause-later
returns-in-Err-Memory-clause-later g c = unsent g.T.Device.tells_moments _ _ _ _ (omega (arith, c.make_journal.ensures.time, c.run_all.ensures.time)) (c.run_all.ensures.line ∙ c.make_journal.ensures.line)

pub returns-in-Err-DiskFault-clause-later : goal.returns-in-Err-DiskFault-clause-later
returns-in-Err-DiskFault-clause-later g c = unsent g.T.Device.tells_moments _ _ _ _ (omega (arith, c.make_journal.ensures.time, c.run_all.ensures.time)) (c.run_all.ensures.line ∙ c.make_journal.ensures.line)

pub returns-in-Err-clause-sure : goal.returns-in-Err-clause-sure
returns-in-Err-clause-sure g c = λ tells told enough.
    ends_unmade c.in-Err.status _ _ _ _ ((g.T.Device.as_much c.args.station.now).reads ∙ tells) c.in-Err.ensures.made (c.in-Err.ensures.sure told (begins c.args.count (g.T.Device.disk c.args.station.now).room enough.keeps)) c.make_journal.ensures.line

pub returns-in-Err-Memory-clause-sure : goal.returns-in-Err-Memory-clause-sure
returns-in-Err-Memory-clause-sure g c = λ tells told enough.
    let first = (c.in-Ok.ensures.sure told (begins c.args.count (g.T.Device.disk c.args.station.now).room enough.keeps)).disk in
    let known = known_of (IsOwn (begun start)) _ ((g.T.Device.as_much c.make_journal.new.disk).reads ∙ tells) c.in-Ok.ensures.made.1 in
    let second = c.in-Err-Memory.ensures.sure tells told known (subst (λ (n : ℕ). HasRoomForAll c.args.count all_steps beginning n) (sym first.room) enough.keeps) in
    record {
      never = record { disk = disk_then _ _ _ first second.disk; line = ap (λ (v : LineView). v.faults) (c.run_all.ensures.line ∙ c.make_journal.ensures.line); no_disk_fault = λ e. cc; no_line_fault = λ e. cc };
      well = λ blank. inr refl;
    }

pub returns-in-Err-DiskFault-clause-sure : goal.returns-in-Err-DiskFault-clause-sure
returns-in-Err-DiskFault-clause-sure g c = λ tells told enough.
    let first = (c.in-Ok.ensures.sure told (begins c.args.count (g.T.Device.disk c.args.station.now).room enough.keeps)).disk in
    let known = known_of (IsOwn (begun start)) _ ((g.T.Device.as_much c.make_journal.new.disk).reads ∙ tells) c.in-Ok.ensures.made.1 in
    let second = c.in-Err-DiskFault.ensures.sure tells told known (subst (λ (n : ℕ). HasRoomForAll c.args.count all_steps beginning n) (sym first.room) enough.keeps) in
    absurd (second.answer (ap Err c.in-Err-DiskFault.field-0-is))

pub returns-in-Ok-send_all-clause-sure : goal.returns-in-Ok-send_all-clause-sure
returns-in-Ok-send_all-clause-sure g c = λ tells told enough.
    let first = (c.in-Ok.ensures.sure told (begins c.args.count (g.T.Device.disk c.args.station.now).room enough.keeps)).disk in
    let known = known_of (IsOwn (begun start)) _ ((g.T.Device.as_much c.make_journal.new.disk).reads ∙ tells) c.in-Ok.ensures.made.1 in
    let second = c.in-Ok-run_all.ensures.sure tells told known (subst (λ (n : ℕ). HasRoomForAll c.args.count all_steps beginning n) (sym first.room) enough.keeps) in
    let same = c.send_all.ensures.disk in
    record {
      never = record {
        disk = subst (λ (d : DiskView). KeepsDisk (g.T.Device.disk c.args.station.now) d) (sym same) (disk_then _ _ _ first second.disk);
        line = (c.in-Ok-send_all.ensures.sure told).faults ∙ ap (λ (v : LineView). v.faults) (c.run_all.ensures.line ∙ c.make_journal.ensures.line);
        no_disk_fault = λ e. cc;
        no_line_fault = λ e. cc;
      };
      well = λ blank. inl refl;
    }

pub returns-clause-sure : goal.returns-clause-sure
returns-clause-sure g c = λ tells told enough.
    let known = known_of (IsOwn (begun start)) _ ((g.T.Device.as_much c.make_journal.new.disk).reads ∙ tells) c.in-Ok.ensures.made.1 in
    absurd (text_fits c.args.count _ _ _ _ c.in-Ok-run_all.text _ _ (ap length c.as_slice.ensures) (c.in-Ok-run_all.ensures.runs tells known).0 (c.run_all.ensures.room ∙ c.make_journal.ensures.room) enough.sends (c.in-Err-send_all.ensures.sure told))
