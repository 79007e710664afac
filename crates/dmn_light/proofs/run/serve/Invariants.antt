use Rattle.std.proofs.Common.{◌≡◌, ◌<◌, true}
use Rattle.dmn_frames.specs.Room.{SpendsSent}
use Rattle.dmn_outside.specs.Counts.{Rose}
use Rattle.dmn_outside.specs.Later.{IsLater}
use Rattle.dmn_light.proofs.Running.{ServedSoFar}
use Rattle.dmn_light.proofs.run.serve.Given as goal

abbrev pub invariant-serve : goal.invariant-serve
invariant-serve g l = record {
  told : g.L.Device.tells ≡ true → ServedSoFar l.counter (g.L.Device.line l.fn.line).talk (g.L.Device.line l.line).talk l.client;
  room : g.L.Device.tells ≡ true → g.L.Device.tells_room ≡ true → SpendsSent (g.L.Device.room l.fn.line) (g.L.Device.room l.line) (g.L.Device.line l.fn.line) (g.L.Device.line l.line);
  rose : 0 < l.counter → Rose (g.L.Device.time l.fn.line) (g.L.Device.time l.line);
  later : IsLater g.L.Device.tells_moments (g.L.Device.time l.fn.line) (g.L.Device.time l.line) (g.L.Device.line l.fn.line) (g.L.Device.line l.line);
  disk : g.L.Device.disk l.line ≡ g.L.Device.disk l.fn.line;
}
