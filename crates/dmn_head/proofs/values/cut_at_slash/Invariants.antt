use Rattle.std.proofs.Common.{◌≡◌, ℕ, ◌<◌, get_or}
use Rattle.dmn_head.proofs.values.cut_at_slash.Given as goal

abbrev pub invariant-cut : goal.invariant-cut
invariant-cut l = (k : ℕ) → k < l.at → get_or l.text k 0 ≡ 47 → ⊥
