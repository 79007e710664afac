use Rattle.std.proofs.Common.{◌-◌, ◌≡◌, ◌≤◌, true}
use Rattle.std.specs.Prelude.{length}
use Rattle.dmn_outside.specs.Failing.{KeepsRoom}
use Rattle.dmn_init.specs.declared.input.TheConstants.{MOST_READ}
use Rattle.dmn_init.proofs.Reading.{ReadSoFar}
use Rattle.dmn_init.proofs.input.read_input.Given as goal

abbrev pub invariant-read : goal.invariant-read
invariant-read g l = record {
  within : length l.text ≤ MOST_READ;
  long : length l.buffer ≡ 4096;
  talk : g.L.Device.tells ≡ true → ReadSoFar l.text (g.L.Device.line l.fn.line).talk (g.L.Device.line l.line).talk;
  moments : g.L.Device.tells_moments ≡ true → (g.L.Device.line l.line).moments ≡ (g.L.Device.line l.fn.line).moments;
  callers : (g.L.Device.line l.line).caller_faults ≡ (g.L.Device.line l.fn.line).caller_faults;
  time : g.L.Device.time l.fn.line ≤ g.L.Device.time l.line;
  disk : g.L.Device.disk l.line ≡ g.L.Device.disk l.fn.line;
  sure : g.L.Device.tells_room ≡ true → KeepsRoom (g.L.Device.room l.fn.line) (g.L.Device.room l.line) (g.L.Device.line l.fn.line) (g.L.Device.line l.line);
  later : (g.L.Device.line l.fn.line).faults ≤ (g.L.Device.line l.line).faults;
}

abbrev pub decreases-read : goal.decreases-read
decreases-read g l = MOST_READ - length l.text
