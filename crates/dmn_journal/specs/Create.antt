-- A new journal: three empty files, a header behind a closed gate, and the gate opened.
use Rattle.std.specs.Prelude.{◌≡◌, ◌≢◌, ◌⊎◌, ℕ, List, [], ◌∷◌, ◌++◌, length}
use Rattle.std.specs.Int.{w32, to_le_bytes}
use Rattle.dmn_outside.specs.Disk.{Three, File, Told, nothing, contents, whole, FileMayLeave}
use Rattle.dmn_journal.specs.Journal.{magic}

-- what stands behind the first gate of a journal with this start record's text and no command
abbrev pub behind_gate : List ℕ → List ℕ
behind_gate start = magic ++ to_le_bytes w32 (length start) ++ start ++ 0 ∷ []

-- a file 0 on which a journal may be made: it has no two bytes of which the first is 1
abbrev pub IsBlank : List ℕ → Type 0
IsBlank [] = Unit {0}
IsBlank (gate ∷ []) = Unit {0}
IsBlank (gate ∷ byte ∷ rest) = gate ≢ 1

-- each image of file 0 is blank
abbrev pub IsBlankDisk : Told → Type 0
IsBlankDisk told = (file : List ℕ) → FileMayLeave told 0 file → IsBlank file

abbrev pub at_rest : List ℕ → File
at_rest text = record { reads = text; sure = text; begun = [] }

-- File 0 is this text, files 1 and 2 are empty, and nothing is pending.
abbrev pub HoldsText : List ℕ → Told → Type 0
HoldsText text nothing = Unit {0}
HoldsText text (contents c) = (c.zeroth ≡ text) × (c.first ≡ []) × (c.second ≡ [])
HoldsText text (whole w) = (w.files.zeroth ≡ at_rest text) × (w.files.first ≡ at_rest []) × (w.files.second ≡ at_rest [])

-- what a crash within the writing of a header leaves: a blank file, or the header whole with no command
abbrev pub IsBlankOrMade : List ℕ → Three (List ℕ) → Type 0
IsBlankOrMade rest image = IsBlank image.zeroth ⊎ ((image.zeroth ≡ 1 ∷ rest) × (image.first ≡ []) × (image.second ≡ []))
