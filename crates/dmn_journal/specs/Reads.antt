-- What the reading calls answer, by their result.
use Rattle.std.specs.Prelude.{◌≡◌, ℕ, ◌+◌, ◌-◌, ◌<◌, ◌^◌, ◌==◌, false, List, [], ◌∷◌, ◌++◌, length, take, drop, Option, None, Some, Result, Ok, Err}
use Rattle.std.specs.Int.{w32, to_le_bytes}
use Rattle.dmn_outside.specs.Disk.{Told, IfReads}
use Rattle.dmn_outside.specs.declared.line.Failed.{Failed}
use Rattle.dmn_rows.specs.declared.start.StartRecord.{StartRecord}
use Rattle.dmn_journal.specs.Journal.{Entry, IsShort, entry_text, magic, size_of_record}
use Rattle.dmn_journal.specs.Reading.{IsHeader, IsRecord, departs, closed, found_at, sized_at, header_departs, start_at, entry_departs, content_at}
use Rattle.dmn_journal.specs.declared.fault.JournalFault.{JournalFault}
use Rattle.dmn_journal.specs.declared.fault.JournalFault.TheVariants.{NotJournal, DiskFault, Memory}
use Rattle.dmn_journal.specs.declared.head.Prefix.{Prefix}
use Rattle.dmn_journal.specs.declared.head.Prefix.TheVariants.{DepartsAt, Of}
use Rattle.dmn_journal.specs.declared.records.Gate.{Gate}
use Rattle.dmn_journal.specs.declared.records.Gate.TheVariants.{Missing, Closed, Open}
use Rattle.dmn_journal.specs.declared.records.JournalEntry.{JournalEntry}

abbrev pub entry_of : JournalEntry → Entry
entry_of entry = record { kind = entry.kind; body = entry.body }

-- the header that stands there, or the place where the file departs from a header's form
abbrev pub Heads : Result (StartRecord × ℕ) JournalFault → Told → Type 0
Heads (Ok (start, behind)) told = IsHeader told start behind
Heads (Err (NotJournal place)) told = IfReads told (λ all. header_departs all.zeroth ≡ Some place)
Heads (Err DiskFault) told = Unit {0}
Heads (Err Memory) told = Unit {0}

-- the record that stands there, or a gate that is closed, or the place where the file departs from a record's form
abbrev pub Nexts : Result (Option (JournalEntry × ℕ)) JournalFault → Told → ℕ → Type 0
Nexts (Ok None) told at = IfReads told (λ all. found_at at (drop at all.zeroth) ≡ closed)
Nexts (Ok (Some (entry, behind))) told at = IsRecord told at (entry_of entry) behind
Nexts (Err (NotJournal place)) told at = IfReads told (λ all. found_at at (drop at all.zeroth) ≡ departs place)
Nexts (Err DiskFault) told at = Unit {0}
Nexts (Err Memory) told at = Unit {0}

-- the bytes of a header before its start record: the place where they depart, or the length of the start record
pub record IsPrefix (told : Told) (size : ℕ) : Type 0 where
  pub fits : size < 2 ^ 32
  pub text : IfReads told (λ all. take 12 all.zeroth ≡ 1 ∷ (magic ++ to_le_bytes w32 size))
  pub rest : IfReads told (λ all. header_departs all.zeroth ≡ start_at size (drop 12 all.zeroth))

abbrev pub Prefixes : Result Prefix Failed → Told → Type 0
Prefixes (Ok (DepartsAt place)) told = IfReads told (λ all. header_departs all.zeroth ≡ Some place)
Prefixes (Ok (Of size)) told = IsPrefix told size
Prefixes (Err failed) told = Unit {0}

-- the same of what stands behind a gate and a length
pub record IsContent (told : Told) (at size : ℕ) (entry : Entry) (behind : ℕ) : Type 0 where
  pub form : entry_departs entry ≡ None
  pub place : behind ≡ at + 5 + size
  pub sized : size ≡ length entry.body + 1
  pub text : IfReads told (λ all. drop (at + 5) all.zeroth ≡ entry.kind ∷ (entry.body ++ drop behind all.zeroth))

abbrev pub Contents : Result (JournalEntry × ℕ) JournalFault → Told → ℕ → ℕ → Type 0
Contents (Ok (entry, behind)) told at size = IsContent told at size (entry_of entry) behind
Contents (Err (NotJournal place)) told at size = IfReads told (λ all. content_at at size (take size (drop (at + 5) all.zeroth)) ≡ departs place)
Contents (Err DiskFault) told at size = Unit {0}
Contents (Err Memory) told at size = Unit {0}

-- the same of a length and what it counts, behind an open gate
pub record IsSized (told : Told) (at : ℕ) (entry : Entry) (behind : ℕ) : Type 0 where
  pub form : entry_departs entry ≡ None
  pub place : behind ≡ at + size_of_record entry
  pub short : IsShort entry
  pub text : IfReads told (λ all. drop (at + 1) all.zeroth ≡ entry_text entry ++ drop behind all.zeroth)

abbrev pub Sizeds : Result (JournalEntry × ℕ) JournalFault → Told → ℕ → Type 0
Sizeds (Ok (entry, behind)) told at = IsSized told at (entry_of entry) behind
Sizeds (Err (NotJournal place)) told at = IfReads told (λ all. sized_at at (take 4 (drop (at + 1) all.zeroth)) (drop 4 (drop (at + 1) all.zeroth)) ≡ departs place)
Sizeds (Err DiskFault) told at = Unit {0}
Sizeds (Err Memory) told at = Unit {0}

-- what a gate says, by the bytes from its place on, of which there is at most one
abbrev pub Gates : Gate → List ℕ → Type 0
Gates Missing head = head ≡ []
Gates Closed head = (gate : ℕ) × (head ≡ gate ∷ []) × ((gate == 1) ≡ false)
Gates Open head = head ≡ 1 ∷ []

-- how many bytes a record at this place has, with its gate, or a gate that is closed
abbrev pub record_size : ℕ → Option (JournalEntry × ℕ) → ℕ
record_size at None = 1
record_size at (Some (entry, behind)) = behind - at
