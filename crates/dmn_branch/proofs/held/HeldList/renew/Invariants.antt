use Rattle.std.proofs.Common.{◌≡◌, ℕ, ◌<◌, ◌≤◌, length, get_or}
use Rattle.dmn_branch.specs.declared.held.Held.{Held}
use Rattle.dmn_branch.specs.Compact.{height_after}
use Rattle.dmn_branch.proofs.held.HeldList.renew.Given as goal

abbrev pub invariant-loop-place : goal.invariant-loop-place
invariant-loop-place l = record {
  long : length l.height-items ≡ length l.fn.self.held;
  done : (k : ℕ) (d : Held) → k < l.place → get_or l.height-items k d ≡ height_after l.made k (get_or l.fn.self.held k d);
  rest : (k : ℕ) (d : Held) → l.place ≤ k → get_or l.height-items k d ≡ get_or l.fn.self.held k d;
}
