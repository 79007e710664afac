use Rattle.std.proofs.Common.{◌≡◌, ◌+◌, ◌≤◌, ◌-◌, take, drop, length, true}
use Rattle.dmn_outside.specs.Changes.{OnlyReads, bytes_read}
use Rattle.dmn_outside.specs.Disk.{IfReads}
use Rattle.dmn_outside.specs.Failing.{KeepsDisk}
use Rattle.dmn_journal.proofs.text.read_text.Given as goal

abbrev pub invariant-read : goal.invariant-read
invariant-read g l = record {
  within : l.done ≤ l.len;
  long : length l.buffer ≡ 4096;
  text : IfReads (g.D.Device.disk l.fn.disk).told (λ all. l.text ≡ take l.done (drop l.at all.zeroth));
  size : length l.text ≡ l.done;
  disk : OnlyReads (g.D.Device.disk l.fn.disk) (g.D.Device.disk l.disk);
  read : bytes_read 0 (g.D.Device.disk l.disk).told ≤ bytes_read 0 (g.D.Device.disk l.fn.disk).told + l.done;
  room : g.D.Device.room l.disk ≡ g.D.Device.room l.fn.disk;
  sure : g.D.Device.tells_room ≡ true → KeepsDisk (g.D.Device.disk l.fn.disk) (g.D.Device.disk l.disk);
  line : g.D.Device.line l.disk ≡ g.D.Device.line l.fn.disk;
  time : g.D.Device.time l.fn.disk ≤ g.D.Device.time l.disk;
  later : (g.D.Device.disk l.fn.disk).faults ≤ (g.D.Device.disk l.disk).faults;
}

abbrev pub decreases-read : goal.decreases-read
decreases-read g l = l.len - l.done
