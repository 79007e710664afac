use Rattle.std.proofs.Common.{◌≡◌, ◌≤◌, ◌<◌, ◌+◌, ◌-◌, ◌^◌, List, false, true}
use Rattle.dmn_outside.specs.Changes.{OnlyReads, bytes_read}
use Rattle.dmn_outside.specs.Failing.{KeepsDisk}
use Rattle.dmn_registry.specs.Machine.{Machine, journal_max}
use Rattle.dmn_journal.specs.Journal.{Entry}
use Rattle.dmn_registry.specs.Opening.{Replayed}
use Rattle.dmn_registry.specs.Untrue.{Followed}
use Rattle.dmn_registry.proofs.Stopping.{ReadSoFar}
use Rattle.dmn_registry.proofs.replaying.replay_records.Given as goal

abbrev pub invariant-replay : goal.invariant-replay
invariant-replay g l = record {
  usable : l.registry.spent ≡ false;
  newest : l.registry.newest ≡ l.fn.registry.newest;
  below : l.registry.journal.end < 2 ^ 62;
  so_far : (k : Machine) → l.fn.limit ≡ journal_max k.start → Replayed l.fn.registry k (g.D.Device.disk l.fn.disk).told → (m : Machine) × (l.fn.limit ≡ journal_max m.start) × Replayed l.registry m (g.D.Device.disk l.fn.disk).told;
  read_to : (entries : List Entry) × ReadSoFar (g.D.Device.disk l.fn.disk).told l.fn.registry.journal.end entries l.registry.journal.end × Followed l.fn.registry.branch entries l.registry.branch;
  disk : OnlyReads (g.D.Device.disk l.fn.disk) (g.D.Device.disk l.disk);
  read : bytes_read 0 (g.D.Device.disk l.disk).told + l.fn.registry.journal.end ≤ bytes_read 0 (g.D.Device.disk l.fn.disk).told + l.registry.journal.end;
  sure : g.D.Device.tells_room ≡ true → KeepsDisk (g.D.Device.disk l.fn.disk) (g.D.Device.disk l.disk);
  line : g.D.Device.line l.disk ≡ g.D.Device.line l.fn.disk;
  room : g.D.Device.room l.disk ≡ g.D.Device.room l.fn.disk;
  time : g.D.Device.time l.fn.disk ≤ g.D.Device.time l.disk;
  later : (g.D.Device.disk l.fn.disk).faults ≤ (g.D.Device.disk l.disk).faults;
}

abbrev pub decreases-replay : goal.decreases-replay
decreases-replay g l = 2 ^ 62 - l.registry.journal.end
