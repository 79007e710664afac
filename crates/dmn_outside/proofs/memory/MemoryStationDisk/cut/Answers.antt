use Rattle.std.proofs.Common.{ap}
use Rattle.dmn_outside.specs.Changes.{after_cut_torn}
use Rattle.dmn_outside.specs.Stored.{told_of, past_of}
use Rattle.dmn_outside.proofs.Replay.{may_from}
use Rattle.dmn_outside.specs.declared.log.Log.{Log}
use Rattle.dmn_outside.proofs.memory.MemoryStationDisk.cut.Goals as goal

pub returns-then-has-clause-failed : goal.returns-then-has-clause-failed
returns-then-has-clause-failed c =
    may_from _ _ (after_cut_torn c.args.file c.args.len) _ _ _ c.tick-moment.ensures.moment (ap (λ (l : Log). told_of l) c.tick-moment.ensures.log) (ap (λ (l : Log). past_of l) c.tick-moment.ensures.log) (c.tear_cut.ensures.told c.args.self.now.disk_faults c.fault.new.faults)
