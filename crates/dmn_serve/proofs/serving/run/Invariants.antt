use Rattle.std.proofs.Common.{◌≡◌, ◌≤◌, true, false}
use Rattle.dmn_office.specs.Offices.{StandsAt}
use Rattle.dmn_registry.specs.Machine.{Machine}
use Rattle.dmn_serve.specs.Outcome.{Passed}
use Rattle.dmn_serve.specs.Passing.{IsPassing}
use Rattle.dmn_serve.specs.Room.{Suffices}
use Rattle.dmn_serve.proofs.Running.{ServedSoFar}
use Rattle.dmn_serve.proofs.Spending.{SpentSoFar}
use Rattle.dmn_serve.proofs.serving.run.Given as goal

abbrev pub invariant-run : goal.invariant-run
invariant-run g l = record {
  told : g.T.Device.tells ≡ true → (m : Machine) → StandsAt l.fn.office m (g.T.Device.disk l.fn.station).told
      → ServedSoFar g.T.Device.tells_moments l.counter (g.T.Device.time l.fn.station) m (g.T.Device.disk l.fn.station) (g.T.Device.disk l.station) (g.T.Device.line l.fn.station) (g.T.Device.line l.station) l.office;
  passed : g.T.Device.tells ≡ true → Passed l.counter (g.T.Device.line l.fn.station).talk (g.T.Device.line l.station).talk;
  room : g.T.Device.tells ≡ true → g.T.Device.tells_room ≡ true → (m : Machine) → StandsAt l.fn.office m (g.T.Device.disk l.fn.station).told → Suffices m l.most (g.T.Device.room l.fn.station) (g.T.Device.disk l.fn.station).room (g.T.Device.line l.fn.station).talk.later
      → SpentSoFar (g.T.Device.room l.fn.station) (g.T.Device.room l.station) (g.T.Device.line l.fn.station) (g.T.Device.line l.station) (g.T.Device.disk l.fn.station) (g.T.Device.disk l.station);
  usable : l.office.registry.spent ≡ false;
  passing : IsPassing g.T.Device.tells_moments (g.T.Device.time l.fn.station) (g.T.Device.time l.station) (g.T.Device.line l.fn.station) (g.T.Device.line l.station);
  disk_later : (g.T.Device.disk l.fn.station).faults ≤ (g.T.Device.disk l.station).faults;
}
