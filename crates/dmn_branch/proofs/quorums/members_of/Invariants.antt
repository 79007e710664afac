use Rattle.std.proofs.Common.{◌≡◌, take}
use Rattle.dmn_indexes.specs.Version.{rows_in}
use Rattle.dmn_quorums.specs.Score.{candidates}
use Rattle.dmn_branch.proofs.quorums.members_of.Given as goal

abbrev pub invariant-loop-rank : goal.invariant-loop-rank
invariant-loop-rank l = l.candidates ≡ candidates (take l.rank (rows_in l.indexes l.base.version)) l.modifier
