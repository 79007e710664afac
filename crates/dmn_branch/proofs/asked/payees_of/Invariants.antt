use Rattle.std.proofs.Common.{◌≡◌, map, take}
use Rattle.dmn_rows.specs.Waiting.{pay_order}
use Rattle.dmn_indexes.specs.Version.{rows_in}
use Rattle.dmn_branch.proofs.asked.payees_of.Given as goal

abbrev pub invariant-loop-rank : goal.invariant-loop-rank
invariant-loop-rank l = l.hashes.items ≡ map (λ row. row.hash) (take l.rank (pay_order (rows_in l.indexes l.version)))
