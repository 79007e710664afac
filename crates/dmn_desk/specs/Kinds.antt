-- The kinds of requests: their numbers, how much of a body is read, and which may want memory.
use Rattle.std.specs.Prelude.{ℕ, ◌==◌, Bool, true, false, if◌then◌else◌, Option, None, Some}
use Rattle.dmn_desk.specs.declared.kind.Kind.{Kind}
use Rattle.dmn_desk.specs.declared.kind.Kind.TheVariants.{Connect, Disconnect, Tip, List as ListKind, Row, Payees, Members, Quorums, Diff, Pin, Page, Release}
use Rattle.dmn_frames.specs.declared.reading.Reading.{Reading}
use Rattle.dmn_frames.specs.declared.reading.Reading.TheVariants.{Front, Whole}

unfoldable pub kind_of : ℕ → Option Kind
kind_of number =
    if number == 1 then Some Connect
    else if number == 2 then Some Disconnect
    else if number == 3 then Some Tip
    else if number == 4 then Some ListKind
    else if number == 5 then Some Row
    else if number == 6 then Some Payees
    else if number == 7 then Some Members
    else if number == 8 then Some Quorums
    else if number == 9 then Some Diff
    else if number == 10 then Some Pin
    else if number == 11 then Some Page
    else if number == 12 then Some Release
    else None

-- how much of a body is read
abbrev pub reading_of : Kind → Reading
reading_of Connect = Whole
reading_of Diff = Whole
reading_of kind = Front

-- the kinds that are answered without memory
abbrev pub takes_no_memory : Option Kind → Bool
takes_no_memory (Some Disconnect) = true
takes_no_memory (Some Tip) = true
takes_no_memory (Some Release) = true
takes_no_memory kind = false
