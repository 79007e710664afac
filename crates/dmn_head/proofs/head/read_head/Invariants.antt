use Rattle.std.proofs.Common.{length, ◌-◌, ◌≡◌, ◌<◌, ◌≤◌, true}
use Rattle.dmn_outside.specs.Counts.{Rose}
use Rattle.dmn_outside.specs.Failing.{KeepsRoom}
use Rattle.dmn_head.specs.Head.{NoEnd, head_limit}
use Rattle.dmn_head.proofs.Taking.{FilledSoFar}
use Rattle.dmn_head.proofs.head.read_head.Given as goal

abbrev pub invariant-head : goal.invariant-head
invariant-head g l = record {
  room : length l.buffer ≡ head_limit;
  within : l.filled ≤ head_limit;
  talk : g.L.Device.tells ≡ true → FilledSoFar l.filled l.buffer (g.L.Device.line l.fn.line).talk (g.L.Device.line l.line).talk;
  open_ : NoEnd l.filled l.buffer;
  moments : g.L.Device.tells_moments ≡ true → (g.L.Device.line l.line).moments ≡ (g.L.Device.line l.fn.line).moments;
  callers : (g.L.Device.line l.line).caller_faults ≡ (g.L.Device.line l.fn.line).caller_faults;
  time : g.L.Device.time l.fn.line ≤ g.L.Device.time l.line;
  rose : 0 < l.filled → Rose (g.L.Device.time l.fn.line) (g.L.Device.time l.line);
  disk : g.L.Device.disk l.line ≡ g.L.Device.disk l.fn.line;
  sure : g.L.Device.tells_room ≡ true → KeepsRoom (g.L.Device.room l.fn.line) (g.L.Device.room l.line) (g.L.Device.line l.fn.line) (g.L.Device.line l.line);
  later : (g.L.Device.line l.fn.line).faults ≤ (g.L.Device.line l.line).faults;
}

abbrev pub decreases-head : goal.decreases-head
decreases-head g l = length l.initial.buffer - l.filled
