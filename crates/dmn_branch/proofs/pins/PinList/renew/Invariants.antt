use Rattle.std.proofs.Common.{◌≡◌, ℕ, ◌+◌, ◌<◌, ◌≤◌, length, get_or}
use Rattle.dmn_branch.specs.declared.pins.Pin.{Pin}
use Rattle.dmn_branch.specs.Compact.{pin_after}
use Rattle.dmn_branch.proofs.pins.PinList.renew.Given as goal

abbrev pub invariant-loop-place : goal.invariant-loop-place
invariant-loop-place l = record {
  long : length l.pin-items ≡ length l.fn.self;
  done : (k : ℕ) (d : Pin) → k < l.place → get_or l.pin-items k d ≡ pin_after l.made (l.first + k) (get_or l.fn.self k d);
  rest : (k : ℕ) (d : Pin) → l.place ≤ k → get_or l.pin-items k d ≡ get_or l.fn.self k d;
}
