use Rattle.std.proofs.Common.{◌≡◌, drop}
use Rattle.dmn_rows.specs.Table.{first_broken}
use Rattle.dmn_rows.proofs.checks.check.Given as goal

abbrev pub invariant-loop-rule : goal.invariant-loop-rule
invariant-loop-rule g l = first_broken (drop l.rule-index l.rules) ≡ first_broken l.rules
