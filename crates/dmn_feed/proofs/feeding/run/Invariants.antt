use Rattle.std.proofs.Common.{◌≡◌, ◌<◌, ◌≤◌, true, false}
use Rattle.dmn_outside.specs.Counts.{Rose}
use Rattle.dmn_outside.specs.Failing.{KeepsDisk}
use Rattle.dmn_outside.specs.Later.{IsLater}
use Rattle.dmn_frames.specs.Room.{SpendsSent}
use Rattle.dmn_registry.specs.Machine.{Machine}
use Rattle.dmn_office.specs.Offices.{StandsAt}
use Rattle.dmn_feed.specs.Room.{Suffices}
use Rattle.dmn_feed.proofs.Fed.{FedSoFar, TookSoFar}
use Rattle.dmn_feed.proofs.Stamping.{FedInTurns}
use Rattle.dmn_feed.proofs.feeding.run.Given as goal

abbrev pub invariant-run : goal.invariant-run
invariant-run g l = record {
  told : g.T.Device.tells ≡ true → (m : Machine) → StandsAt l.fn.office m (g.T.Device.disk l.fn.station).told
      → FedSoFar g.T.Device.tells_moments l.counter (g.T.Device.time l.fn.station) m (g.T.Device.disk l.fn.station) (g.T.Device.disk l.station) (g.T.Device.line l.fn.station) (g.T.Device.line l.station) l.office;
  took : g.T.Device.tells ≡ true → TookSoFar l.counter (g.T.Device.line l.fn.station).talk (g.T.Device.line l.station).talk;
  turns : g.T.Device.tells ≡ true → g.T.Device.tells_moments ≡ true → FedInTurns (g.T.Device.time l.fn.station) (g.T.Device.time l.station) (g.T.Device.line l.fn.station) (g.T.Device.line l.station);
  room : g.T.Device.tells ≡ true → g.T.Device.tells_room ≡ true → (m : Machine) → StandsAt l.fn.office m (g.T.Device.disk l.fn.station).told → Suffices m (g.T.Device.room l.fn.station) (g.T.Device.disk l.fn.station).room (g.T.Device.line l.fn.station).talk.left
      → SpendsSent (g.T.Device.room l.fn.station) (g.T.Device.room l.station) (g.T.Device.line l.fn.station) (g.T.Device.line l.station) × KeepsDisk (g.T.Device.disk l.fn.station) (g.T.Device.disk l.station);
  usable : l.office.registry.spent ≡ false;
  rose : 0 < l.counter → Rose (g.T.Device.time l.fn.station) (g.T.Device.time l.station);
  later : IsLater g.T.Device.tells_moments (g.T.Device.time l.fn.station) (g.T.Device.time l.station) (g.T.Device.line l.fn.station) (g.T.Device.line l.station);
  disk_later : (g.T.Device.disk l.fn.station).faults ≤ (g.T.Device.disk l.station).faults;
}
