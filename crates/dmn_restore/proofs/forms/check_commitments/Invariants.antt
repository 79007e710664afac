use Rattle.std.proofs.Common.{take}
use Rattle.std.specs.List.{All}
use Rattle.dmn_payloads.specs.Commitments.{commitment}
use Rattle.dmn_restore.proofs.forms.check_commitments.Given as goal

abbrev pub invariant-loop-place : goal.invariant-loop-place
invariant-loop-place l = All commitment.Fits (take l.place l.commitments)
