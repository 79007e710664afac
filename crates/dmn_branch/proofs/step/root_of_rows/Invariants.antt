use Rattle.std.proofs.Common.{◌≡◌, take, map}
use Rattle.dmn_merkle.specs.OnePass.{count_of, Holds}
use Rattle.dmn_sml.specs.Defs.{leaf, simple}
use Rattle.dmn_branch.proofs.step.root_of_rows.Given as goal

abbrev pub invariant-loop-rank : goal.invariant-loop-rank
invariant-loop-rank l = record {
  held : Holds l.builder (map leaf (simple (take l.rank l.list.rows)));
  counted : count_of l.builder ≡ l.rank;
}
