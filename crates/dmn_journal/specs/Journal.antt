-- The journal's text, and the commands of a file. File 0 has a gate of 1, the magic, the length of the start record as four
-- bytes, and the start record; then records, each a gate of 1, the length of what follows as four bytes, kind and body; then a
-- closed gate, which is any byte but 1. What stands behind it is free. Numbers are little endian.
use Rattle.std.specs.Prelude.{◌≡◌, ◌≢◌, ◌⊎◌, ℕ, ◌+◌, ◌-◌, ◌<◌, ◌^◌, List, [], ◌∷◌, ◌++◌, length, take, drop, slice_index_or}
use Rattle.std.specs.Int.{w32, to_le_bytes}
use Rattle.dmn_outside.specs.Changes.{file_synced}
use Rattle.dmn_outside.specs.Disk.{Three, Told, nothing, contents, whole, Leaves}
use Rattle.dmn_rows.specs.Defs.{start_text}
use Rattle.dmn_rows.specs.declared.start.StartRecord.{StartRecord}

-- DMNJ001
abbrev pub magic : List ℕ
magic = 68 ∷ 77 ∷ 78 ∷ 74 ∷ 48 ∷ 48 ∷ 49 ∷ []

-- an open gate, the magic, the length of the start record, the start record
abbrev pub header_text : StartRecord → List ℕ
header_text start = 1 ∷ (magic ++ to_le_bytes w32 (length (start_text start)) ++ start_text start)

-- a command as it is kept: kind 1 and the body of a Connect, or kind 2 and the hash of a block
pub record Entry : Type 0 where
  pub kind : ℕ
  pub body : List ℕ

-- what stands behind a record's gate: the length of what follows, the kind and the body
abbrev pub entry_text : Entry → List ℕ
entry_text entry = to_le_bytes w32 (length entry.body + 1) ++ entry.kind ∷ entry.body

-- the entry that such a text is of
abbrev pub entry_in : List ℕ → Entry
entry_in text = record { kind = slice_index_or text 4 0; body = take (length text - 6) (drop 5 text) }

-- how many bytes it takes, with its gate
abbrev pub size_of_record : Entry → ℕ
size_of_record entry = 5 + (length entry.body + 1)

-- its length fits
abbrev pub IsShort : Entry → Type 0
IsShort entry = length entry.body + 1 < 2 ^ 32

abbrev pub AreShort : List Entry → Type 0
AreShort [] = Unit {0}
AreShort (entry ∷ entries) = IsShort entry × AreShort entries

-- open gates, each with its record
abbrev pub blocks : List Entry → List ℕ
blocks [] = []
blocks (entry ∷ entries) = 1 ∷ (entry_text entry ++ blocks entries)

-- a journal with these commands, closed by a gate of 0
abbrev pub journal_text : StartRecord → List Entry → List ℕ
journal_text start commands = (header_text start ++ blocks commands) ++ 0 ∷ []

-- The file begins with this header, and these are the records behind its open gates, up to the first that is closed.
pub record HasCommands (header : List ℕ) (commands : List Entry) (file : List ℕ) : Type 0 where
  pub gate : ℕ
  pub rest : List ℕ
  pub shut : gate ≢ 1
  pub short : AreShort commands
  pub is : file ≡ (header ++ blocks commands) ++ gate ∷ rest

-- this or with one entry more
abbrev pub IsBeforeOrAfter : List ℕ → List Entry → Entry → List ℕ → Type 0
IsBeforeOrAfter header commands entry file = HasCommands header commands file ⊎ HasCommands header (commands ++ entry ∷ []) file

-- where the closed gate stands
abbrev pub gate_place : List ℕ → List Entry → ℕ
gate_place header commands = length (header ++ blocks commands)

-- As far as it is told, file 0 has these commands, nothing of it is pending, and its closed gate is at this place.
abbrev pub Stands : List ℕ → List Entry → ℕ → Told → Type 0
Stands header commands end nothing = Unit {0}
Stands header commands end (contents c) = HasCommands header commands c.zeroth × (end ≡ gate_place header commands)
Stands header commands end (whole w) = HasCommands header commands w.files.zeroth.reads × (end ≡ gate_place header commands) × (w.files.zeroth ≡ file_synced w.files.zeroth)

-- an image of files 1 and 2 that stood before; there is none where images aren't told
abbrev pub OthersLeft : Told → Three (List ℕ) → Type 0
OthersLeft nothing image = ⊥
OthersLeft (contents c) image = ⊥
OthersLeft (whole w) image = Leaves w.files.first.sure w.files.first.begun image.first × Leaves w.files.second.sure w.files.second.begun image.second

-- what a crash within an append may leave: the commands of before, with the entry or without, and files 1 and 2 as before
pub record Appending (header : List ℕ) (commands : List Entry) (entry : Entry) (before : Told) (image : Three (List ℕ)) : Type 0 where
  pub entries : IsBeforeOrAfter header commands entry image.zeroth
  pub rest : OthersLeft before image
