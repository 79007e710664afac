use Rattle.std.proofs.Common.{take}
use Rattle.std.specs.List.{All}
use Rattle.dmn_held.specs.Lists.{mined_at}
use Rattle.dmn_restore.proofs.forms.check_mined.Given as goal

abbrev pub invariant-loop-place : goal.invariant-loop-place
invariant-loop-place l = All mined_at.Fits (take l.place l.mined)
