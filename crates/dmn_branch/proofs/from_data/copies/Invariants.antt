use Rattle.std.proofs.Common.{◌≡◌, take}
use Rattle.dmn_branch.proofs.from_data.copies.Given as goal

abbrev pub invariant-loop-commitment : goal.invariant-loop-commitment
invariant-loop-commitment l = l.copies.items ≡ take l.commitment-index l.commitments
