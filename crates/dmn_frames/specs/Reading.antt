-- How much of a body is read.
use Rattle.std.specs.Prelude.{ℕ, List, [], take}
use Rattle.dmn_frames.specs.declared.limits.TheConstants.{FRONT}
use Rattle.dmn_frames.specs.declared.reading.Reading.{Reading}
use Rattle.dmn_frames.specs.declared.reading.Reading.TheVariants.{Nothing, Front, Whole}

-- what is left of a body that is read so
abbrev pub kept_of : Reading → List ℕ → List ℕ
kept_of Nothing body = []
kept_of Front body = take FRONT body
kept_of Whole body = body
