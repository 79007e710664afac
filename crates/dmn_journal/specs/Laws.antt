-- Laws about the definitions.
use Rattle.std.specs.Prelude.{◌≡◌, ◌≢◌, ℕ, ◌+◌, List, [], ◌∷◌, ◌++◌, length, None}
use Rattle.dmn_bytes.specs.Format.{whole}
use Rattle.dmn_journal.specs.Entries.{entry_format}
use Rattle.dmn_rows.specs.Defs.{start_text}
use Rattle.dmn_rows.specs.declared.start.StartRecord.{StartRecord}
use Rattle.dmn_journal.specs.Create.{behind_gate}
use Rattle.dmn_journal.specs.Journal.{AreShort, Entry, HasCommands, IsShort, entry_text, header_text, journal_text}
use Rattle.dmn_journal.specs.Reading.{closed, entry_departs, found, found_at, place_in}

-- A file has its commands once: behind a header there is one list of records up to the first closed gate.
abbrev pub CommandsOnce : Type 0
CommandsOnce = (header : List ℕ) (one two : List Entry) (file : List ℕ) → HasCommands header one file → HasCommands header two file → one ≡ two

-- Where an open gate and the text of a record in form stand, this record is found.
abbrev pub RecordsAreFound : Type 0
RecordsAreFound = (at : ℕ) (text rest : List ℕ) (entry : Entry) → entry_departs entry ≡ None → IsShort entry → text ≡ 1 ∷ (entry_text entry ++ rest) → found_at at text ≡ found entry

-- A gate is closed where a byte other than 1 stands.
abbrev pub OthersAreClosed : Type 0
OthersAreClosed = (at : ℕ) (text rest : List ℕ) (gate : ℕ) → text ≡ gate ∷ rest → gate ≢ 1 → found_at at text ≡ closed

-- What a record's length counts departs where it departs from the format of kind and body.
abbrev pub EntriesAreByTheirFormat : Type 0
EntriesAreByTheirFormat = (kind : ℕ) (body : List ℕ) → place_in (whole (entry_format (length body + 1)) (kind ∷ body)) ≡ entry_departs (record { kind = kind; body = body })

-- The text of a journal has its commands.
abbrev pub JournalsHaveTheirCommands : Type 0
JournalsHaveTheirCommands = (start : StartRecord) (commands : List Entry) → AreShort commands → HasCommands (header_text start) commands (journal_text start commands)

-- What is made is the text of a journal without commands.
abbrev pub MadeIsAJournal : Type 0
MadeIsAJournal = (start : StartRecord) → 1 ∷ behind_gate (start_text start) ≡ journal_text start []
