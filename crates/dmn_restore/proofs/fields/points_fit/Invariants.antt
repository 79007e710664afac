use Rattle.std.proofs.Common.{take}
use Rattle.std.specs.List.{All}
use Rattle.dmn_bytes.specs.Points.{out_point}
use Rattle.dmn_restore.proofs.fields.points_fit.Given as goal

abbrev pub invariant-loop-place : goal.invariant-loop-place
invariant-loop-place l = All out_point.Fits (take l.place l.points)
