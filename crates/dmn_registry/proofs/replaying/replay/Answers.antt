use Rattle.std.proofs.Common.{arith}
use Rattle.dmn_branch.proofs.Starting.{start_bounds}
use Rattle.dmn_registry.specs.Machine.{begun}
use Rattle.dmn_registry.proofs.Lengths.{header_long}
use Rattle.dmn_registry.proofs.Records.{begun_there, replays_back}
use Rattle.dmn_registry.proofs.replaying.replay.Goals as goal

pub limit_of-requires : goal.limit_of-requires
limit_of-requires g c = start_bounds c.in-Ok.found.0 c.in-Ok.ensures.heads.is_start

pub replay_records-requires-clause-place : goal.replay_records-requires-clause-place
replay_records-requires-clause-place g c = omega (arith, c.in-Ok-at_header.ensures.end, c.in-Ok.ensures.heads.place, header_long c.in-Ok.found.0 c.in-Ok.ensures.heads.is_start)

pub returns-clause-replays : goal.returns-clause-replays
returns-clause-replays g c =
    let e = c.in-Ok-at_header.ensures in
    replays_back c.replay_records.result (g.D.Device.disk c.args.disk.now).told _ c.header.ensures.disk.told
    (c.replay_records.ensures.replays (begun c.in-Ok.found.0) c.limit_of.ensures.is (begun_there c.in-Ok-at_header.registry c.in-Ok.found.0 c.in-Ok.found.1 _ _ c.header.ensures.disk.told c.in-Ok.ensures.heads e.branch e.end e.records e.usable))
