use Rattle.std.proofs.Common.{◌≡◌, ◌<◌, ◌≤◌, ◌-◌, ℕ, false, length}
use Rattle.dmn_head.specs.Head.{ends_at}
use Rattle.dmn_head.proofs.head.find_end.Given as goal

abbrev pub invariant-scan : goal.invariant-scan
invariant-scan l = record {
  later : l.from ≤ l.at;
  within : l.at ≤ length l.bytes;
  none : (k : ℕ) → l.from ≤ k → k < l.at → ends_at l.bytes k ≡ false;
}

abbrev pub decreases-scan : goal.decreases-scan
decreases-scan l = length l.bytes - l.at
