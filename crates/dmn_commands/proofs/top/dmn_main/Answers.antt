use Rattle.std.proofs.Common.{sym}
use Rattle.dmn_outside.proofs.Passing.{later_quiet}
use Rattle.dmn_registry.specs.Machine.{at_rest}
use Rattle.dmn_commands.specs.declared.command.Command.TheVariants as commands
use Rattle.dmn_commands.proofs.Running.{ends_well, passes_asked, runs_asked, serves_well}
use Rattle.dmn_commands.proofs.top.dmn_main.Goals as goal

pub returns-in-Some-Init-clause-runs : goal.returns-in-Some-Init-clause-runs
returns-in-Some-Init-clause-runs g c = λ command wanted. runs_asked _ commands.Init command _ _ (sym (rw c.in-Some-Init.field-0-is at c.in-Some-Init.ensures)) wanted (record {
  ends = c.init.ensures.status;
  outcome = c.init.ensures.outcome;
  unwritten = c.init.ensures.before;
  moments = c.init.ensures.moments;
  complete = λ tells blank start of calm. c.init.ensures.complete tells blank start of calm.disk calm.line;
  sure = c.init.ensures.sure;
})

pub returns-in-Some-Feed-clause-runs : goal.returns-in-Some-Feed-clause-runs
returns-in-Some-Feed-clause-runs g c = λ command wanted. runs_asked _ commands.Feed command _ _ (sym (rw c.in-Some-Feed.field-0-is at c.in-Some-Feed.ensures)) wanted (record {
  ends = c.feed.ensures.status;
  outcome = c.feed.ensures.outcome;
  exact = c.feed.ensures.exact;
  complete = λ tells m known calm frames left cut.
      ends_well c.feed.result g.T.Device.tells_moments (g.T.Device.time c.args.station.now) (at_rest m) (g.T.Device.disk c.args.station.now) (g.T.Device.disk c.feed.new.station) (g.T.Device.line c.args.station.now) (g.T.Device.line c.feed.new.station) frames left
      (c.feed.ensures.outcome tells m known) cut (λ e. calm.line (c.feed.ensures.line_fault e)) (λ e. calm.disk (c.feed.ensures.disk_fault e));
  opens = c.feed.ensures.opens;
  cause = c.feed.ensures.cause;
  unserved = c.feed.ensures.unserved;
  in_turns = c.feed.ensures.in_turns;
  sure = c.feed.ensures.sure;
})

pub returns-in-Some-Audit-clause-runs : goal.returns-in-Some-Audit-clause-runs
returns-in-Some-Audit-clause-runs g c = λ command wanted. runs_asked _ commands.Audit command _ _ (sym (rw c.in-Some-Audit.field-0-is at c.in-Some-Audit.ensures)) wanted (record {
  ends = c.audit.ensures.status;
  outcome = c.audit.ensures.outcome;
  own = c.audit.ensures.own;
  complete = λ m known calm. c.audit.ensures.complete m known calm.disk calm.line;
  sure = c.audit.ensures.sure;
  disk = c.audit.ensures.disk;
})

pub returns-in-Some-Client-clause-runs : goal.returns-in-Some-Client-clause-runs
returns-in-Some-Client-clause-runs g c = λ command wanted. runs_asked _ commands.Client command _ _ (sym (rw c.in-Some-Client.field-0-is at c.in-Some-Client.ensures)) wanted (record {
  ends = c.client.ensures.ends;
  outcome = c.client.ensures.outcome;
  exact = c.client.ensures.exact;
  complete = λ tells calm. c.client.ensures.complete tells calm.line;
  sure = c.client.ensures.sure;
  disk = c.client.ensures.disk;
})

pub returns-in-Some-Serve-clause-runs : goal.returns-in-Some-Serve-clause-runs
returns-in-Some-Serve-clause-runs g c = λ command wanted. runs_asked _ (commands.Serve c.in-Some-Serve.callers) command _ _ (sym (rw c.in-Some-Serve.field-0-is at c.in-Some-Serve.ensures)) wanted (record {
  ends = c.serve.ensures.status;
  outcome = c.serve.ensures.outcome;
  exact = c.serve.ensures.exact;
  complete = λ tells m known disk callers.
      serves_well c.serve.result c.in-Some-Serve.callers g.T.Device.tells_moments (g.T.Device.time c.args.station.now) (at_rest m) (g.T.Device.disk c.args.station.now) (g.T.Device.disk c.serve.new.station) (g.T.Device.line c.args.station.now) (g.T.Device.line c.serve.new.station)
      (c.serve.ensures.outcome tells m known) (λ e. callers (c.serve.ensures.caller_fault e)) (λ e. disk (c.serve.ensures.disk_fault e));
  opens = c.serve.ensures.opens;
  cause = c.serve.ensures.cause;
  unserved = c.serve.ensures.unserved;
  sure = c.serve.ensures.sure;
})

pub returns-in-Some-Init-clause-later : goal.returns-in-Some-Init-clause-later
returns-in-Some-Init-clause-later g c = λ command wanted.
    passes_asked g.T.Device.tells_moments (g.T.Device.time c.args.station.now) (g.T.Device.time c.init.new.station) (g.T.Device.line c.args.station.now) (g.T.Device.line c.init.new.station) _ commands.Init command (sym (rw c.in-Some-Init.field-0-is at c.in-Some-Init.ensures)) wanted (later_quiet c.init.ensures.quiet)

pub returns-in-Some-Make-clause-runs : goal.returns-in-Some-Make-clause-runs
returns-in-Some-Make-clause-runs g c = λ command wanted. runs_asked _ (commands.Make c.in-Some-Make.count) command _ _ (sym (rw c.in-Some-Make.field-0-is at c.in-Some-Make.ensures)) wanted (record {
  ends = c.make.ensures.status;
  outcome = c.make.ensures.outcome;
  kept = c.make.ensures.kept;
  moments = c.make.ensures.moments;
  complete = λ tells blank calm. c.make.ensures.complete tells blank calm.disk calm.line;
  sure = c.make.ensures.sure;
})
