-- What changes between two simplified lists, and the message that tells it (DIP-0004). A reader begins here; the parts are:
--   Change   what is gone and what is new from one list to another, and a list after a change
--   Rows     the same change, between the simplified lists of rows
--   Diff     the table of a diff's fields
--   Fault    what a fault of a diff says of its text
--   Fitting  which diffs have a text, field by field
--   Walk     what one step of a walk over lists that ascend says
use Rattle.std.specs.Prelude.{◌≡◌, ℕ, List}
use Rattle.dmn_bytes.specs.declared.hash.Hash256.{Hash256}
use Rattle.dmn_bytes.specs.Points.{hash_cmp}
use Rattle.dmn_rows.specs.Sorted.{Ascends}
use Rattle.dmn_diff.specs.declared.diff.Diff.{Diff}
use Rattle.dmn_diff.specs.Diff.{diff, itself}

-- each hash is below all behind it
abbrev pub HashesAscend : List Hash256 → Type 0
HashesAscend = Ascends hash_cmp itself

-- each field fits its place, and both lists ascend, so the diff has a text
abbrev pub IsDiff : Diff → Type 0
IsDiff = diff.Fits

abbrev pub diff_text : Diff → List ℕ
diff_text = diff.text

-- the text is, whole, that of this diff
abbrev pub IsDiffText : List ℕ → Diff → Type 0
IsDiffText text d = IsDiff d × (text ≡ diff_text d)
