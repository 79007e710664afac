use Rattle.std.proofs.Common.{◌≡◌}
use Rattle.dmn_merkle.specs.Branch.{flag_bytes}
use Rattle.dmn_merkle.proofs.Branches.{giving}
use Rattle.dmn_merkle.proofs.branch.flags_of.Given as goal

abbrev pub invariant-loop-i : goal.invariant-loop-i
invariant-loop-i l = giving l.flags l.count l.i l.ones ≡ flag_bytes l.d
