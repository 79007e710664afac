use Rattle.std.proofs.Common.{take}
use Rattle.std.specs.List.{All}
use Rattle.dmn_bytes.specs.Format.{hash}
use Rattle.dmn_restore.proofs.fields.hashes_fit.Given as goal

abbrev pub invariant-loop-place : goal.invariant-loop-place
invariant-loop-place l = All hash.Fits (take l.place l.hashes)
