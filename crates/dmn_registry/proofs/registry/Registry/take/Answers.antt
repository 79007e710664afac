use Rattle.std.proofs.Common.{arith, refl}
use Rattle.dmn_journal.specs.Reads.{entry_of}
use Rattle.dmn_registry.specs.Machine.{state_of}
use Rattle.dmn_registry.specs.Opening.{seen}
use Rattle.dmn_registry.proofs.Keeping.{stands_next}
use Rattle.dmn_registry.proofs.Records.{stops_formless, stops_long, stops_refused}
use Rattle.dmn_registry.proofs.Stopping.{formless_take, long_take, refused_take}
use Rattle.dmn_registry.proofs.registry.Registry.take.Goals as goal

pub returns-in-Err-BlockForm-clause-takes : goal.returns-in-Err-BlockForm-clause-takes
returns-in-Err-BlockForm-clause-takes c = λ m stands max.
    let read = rw c.in-Err-BlockForm.field-0-is at c.in-Err-BlockForm.ensures.reads in
    rw c.in-Err-BlockForm.field-0-is (stops_formless m (entry_of c.args.entry.now) read.0 c.args.self.now.journal.end c.in-Err-BlockForm.place read.1 read.2)

pub returns-then-behind-limit-clause-takes : goal.returns-then-behind-limit-clause-takes
returns-then-behind-limit-clause-takes c = λ m stands max. stops_long c.args.self.now m (entry_of c.args.entry.now) (seen c.in-Ok.command) c.args.behind c.args.limit stands c.requires.short c.requires.place c.if-behind-limit.true max c.in-Ok.ensures.reads.0

pub returns-in-Ok-false-clause-takes : goal.returns-in-Ok-false-clause-takes
returns-in-Ok-false-clause-takes c = λ m stands max.
    let refused = (rw c.in-Ok-false.field-0-test at c.in-Ok-false.ensures) (state_of m) stands.branch in
    stops_refused m (entry_of c.args.entry.now) (seen c.in-Ok.command) c.args.self.now.journal.end c.in-Ok.ensures.reads.0 refused

pub returns-clause-takes : goal.returns-clause-takes
returns-clause-takes c = λ m stands max.
    let followed = (rw c.in-Ok-true.field-0-test at c.in-Ok-true.ensures) (state_of m) stands.branch in
    let next = stands_next c.args.self.now _ m (entry_of c.args.entry.now) (seen c.in-Ok.command) stands c.requires.form c.requires.short (omega (arith, c.requires.place, c.if-behind-limit.false, max)) c.in-Ok.ensures.reads.0 followed.0 followed.1 refl c.requires.place refl in
    (next.accepts, next.stands)

pub returns-in-Err-BlockForm-clause-stops : goal.returns-in-Err-BlockForm-clause-stops
returns-in-Err-BlockForm-clause-stops c =
    let read = rw c.in-Err-BlockForm.field-0-is at c.in-Err-BlockForm.ensures.reads in
    rw c.in-Err-BlockForm.field-0-is (formless_take (entry_of c.args.entry.now) read.0 c.args.self.now.journal.end c.args.limit c.in-Err-BlockForm.place c.args.self.now.branch read.1 read.2)

pub returns-then-behind-limit-clause-stops : goal.returns-then-behind-limit-clause-stops
returns-then-behind-limit-clause-stops c = long_take (entry_of c.args.entry.now) (seen c.in-Ok.command) c.args.self.now.journal.end c.args.limit c.args.self.now.branch c.in-Ok.ensures.reads.0 (omega (arith, c.if-behind-limit.true, c.requires.place))

pub returns-in-Ok-false-clause-stops : goal.returns-in-Ok-false-clause-stops
returns-in-Ok-false-clause-stops c = refused_take (entry_of c.args.entry.now) (seen c.in-Ok.command) c.args.self.now.journal.end c.args.limit c.args.self.now.branch c.in-Ok.ensures.reads.0 (λ s stands. (rw c.in-Ok-false.field-0-test at c.in-Ok-false.ensures) s stands)

pub returns-clause-followed : goal.returns-clause-followed
returns-clause-followed c = λ s stands.
    let followed = (rw c.in-Ok-true.field-0-test at c.in-Ok-true.ensures) s stands in
    (seen c.in-Ok.command, c.in-Ok.ensures.reads.0, followed.0, followed.1)
