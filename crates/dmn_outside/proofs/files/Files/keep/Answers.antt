use Rattle.std.proofs.Common.{is_ok, arith}
use Rattle.dmn_outside.specs.Stored.{begun_of, read_of}
use Rattle.dmn_outside.proofs.Replay.{kept_either, before_either, told_after, past_more}
use Rattle.dmn_outside.specs.declared.log.Change.{Change}
use Rattle.dmn_outside.proofs.files.Files.keep.Goals as goal

pub invariant_of-self : goal.invariant_of-self
invariant_of-self c =
    let done : Change = record { moment = c.args.moment; file = c.args.file; act = c.args.act } in
    let log = c.args.self.now.log in
    record {
      is_now = kept_either (begun_of log.files) log.changes.items c.push.new.self.items done (is_ok c.push.result) _ c.push.ensures.items c.args.self.now.is_now c.requires;
      is_past = before_either c.args.self.now.time log.changes.items c.push.new.self.items done (is_ok c.push.result) c.push.ensures.items c.args.self.now.is_past (omega arith);
    }

pub returns-clause-done : goal.returns-clause-done
returns-clause-done c =
    let log = c.args.self.now.log in
    told_after (begun_of log.files) log.changes.items c.push.new.self.items _ c.in_ok-push.ensures.items (read_of log.counts)

pub returns-clause-past : goal.returns-clause-past
returns-clause-past c =
    let log = c.args.self.now.log in
    past_more (begun_of log.files) log.changes.items c.push.new.self.items _ c.in_ok-push.ensures.items (read_of log.counts)
