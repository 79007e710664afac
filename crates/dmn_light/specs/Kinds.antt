-- The kinds of frames that a light client answers: their numbers, and how much of a body is read.
use Rattle.std.specs.Prelude.{ℕ, ◌==◌, if◌then◌else◌, Option, None, Some}
use Rattle.dmn_frames.specs.declared.reading.Reading.{Reading}
use Rattle.dmn_frames.specs.declared.reading.Reading.TheVariants.{Front, Whole}
use Rattle.dmn_light.specs.declared.kind.Kind.{Kind}
use Rattle.dmn_light.specs.declared.kind.Kind.TheVariants.{Header, Apply, Show}

unfoldable pub kind_of : ℕ → Option Kind
kind_of number =
    if number == 16 then Some Header
    else if number == 17 then Some Apply
    else if number == 18 then Some Show
    else None

-- how much of a body is read
abbrev pub reading_of : Kind → Reading
reading_of Header = Whole
reading_of Apply = Whole
reading_of Show = Front
