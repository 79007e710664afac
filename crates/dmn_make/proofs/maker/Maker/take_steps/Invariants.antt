use Rattle.std.proofs.Common.{◌≡◌, ◌≤◌, take, true, false}
use Rattle.dmn_outside.specs.Failing.{KeepsDisk}
use Rattle.dmn_make.specs.Going.{Going, after_all}
use Rattle.dmn_make.specs.Room.{HasRoomForAll}
use Rattle.dmn_make.specs.Running.{HasTaken, IsAt}
use Rattle.dmn_make.proofs.maker.Maker.take_steps.Given as goal

-- the steps so far
abbrev pub invariant-steps : goal.invariant-steps
invariant-steps g l = record {
  taken : g.D.Device.tells ≡ true → (from : Going) → IsAt l.fn.self from (g.D.Device.disk l.fn.disk).told
      → HasTaken (g.D.Device.time l.fn.disk) (g.D.Device.disk l.fn.disk) (g.D.Device.disk l.disk) from (after_all l.fn.self.count (take l.step-index l.steps) from) l.self;
  sure : g.D.Device.tells ≡ true → g.D.Device.tells_room ≡ true → (from : Going) → IsAt l.fn.self from (g.D.Device.disk l.fn.disk).told → HasRoomForAll l.fn.self.count l.steps from (g.D.Device.disk l.fn.disk).room → KeepsDisk (g.D.Device.disk l.fn.disk) (g.D.Device.disk l.disk);
  count : l.self.count ≡ l.fn.self.count;
  usable : l.self.office.registry.spent ≡ false;
  line : g.D.Device.line l.disk ≡ g.D.Device.line l.fn.disk;
  room : g.D.Device.room l.disk ≡ g.D.Device.room l.fn.disk;
  time : g.D.Device.time l.fn.disk ≤ g.D.Device.time l.disk;
  later : (g.D.Device.disk l.fn.disk).faults ≤ (g.D.Device.disk l.disk).faults;
}
