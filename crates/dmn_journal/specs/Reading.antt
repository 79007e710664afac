-- What stands at a place of file 0: the header, or a record, a closed gate, or a departure from the form. A length and what it
-- counts are read like a blob, which departs at its first byte where it is too short, and what it counts is read within it.
use Rattle.std.specs.Prelude.{◌≡◌, ℕ, ◌+◌, ◌==◌, List, [], ◌∷◌, ◌++◌, length, take, drop, nat_lt, if◌then◌else◌, Option, None, Some, Result, Ok, Err}
use Rattle.std.specs.Int.{w32, from_le_bytes}
use Rattle.std.specs.Str.{bytes_eq}
use Rattle.dmn_bytes.specs.Format.{whole}
use Rattle.dmn_bytes.specs.Law.{place_of}
use Rattle.dmn_bytes.specs.declared.fault.Departure.{Departure}
use Rattle.dmn_outside.specs.Disk.{Told, IfReads}
use Rattle.dmn_rows.specs.Defs.{IsStart}
use Rattle.dmn_rows.specs.Start.{start_record}
use Rattle.dmn_rows.specs.declared.start.StartRecord.{StartRecord}
use Rattle.dmn_journal.specs.Journal.{Entry, entry_text, header_text, IsShort, magic, size_of_record}
use Rattle.dmn_journal.specs.declared.limits.TheConstants.{CONNECT, DISCONNECT, LONGEST_BODY}

-- ---- the header

abbrev pub place_in : {V : Type 0} → Result V Departure → Option ℕ
place_in (Ok v) = None
place_in (Err d) = Some (place_of d)

-- the place of the first field that departs; none where this is the text of a start record
abbrev pub start_departs : List ℕ → Option ℕ
start_departs text = place_in (whole start_record text)

abbrev pub later : ℕ → Option ℕ → Option ℕ
later n None = None
later n (Some at) = Some (n + at)

abbrev pub start_at : ℕ → List ℕ → Option ℕ
start_at size rest = if nat_lt (length (take size rest)) size then Some 12 else later 12 (start_departs (take size rest))

abbrev pub size_at : List ℕ → List ℕ → Option ℕ
size_at (a ∷ b ∷ c ∷ d ∷ []) rest = start_at (from_le_bytes w32 (a ∷ b ∷ c ∷ d ∷ [])) rest
size_at short rest = Some 8

-- the place where the file departs from a header's form; none where it begins with a header
unfoldable pub header_departs : List ℕ → Option ℕ
header_departs file =
    if bytes_eq (take 1 file) (1 ∷ []) then (if bytes_eq (take 7 (drop 1 file)) magic then size_at (take 4 (drop 8 file)) (drop 12 file) else Some 1) else Some 0

-- as far as it is told, file 0 begins with this header, and behind it is this place
pub record IsHeader (told : Told) (start : StartRecord) (behind : ℕ) : Type 0 where
  pub is_start : IsStart start
  pub place : behind ≡ length (header_text start)
  pub text : IfReads told (λ all. all.zeroth ≡ header_text start ++ drop behind all.zeroth)

-- ---- a record

-- the body of a Connect is at most so long; what stands in it is not looked at here
abbrev pub connect_departs : List ℕ → Option ℕ
connect_departs body = if nat_lt LONGEST_BODY (length body) then Some 1 else None

-- a hash has 32 bytes
abbrev pub hash_departs : List ℕ → Option ℕ
hash_departs body = if nat_lt (length body) 32 then Some 1 else if nat_lt 32 (length body) then Some 33 else None

-- Where a kind and a body depart from their form, counted from the kind; none where they are in it. A law says that this is
-- where they depart from their format (`entry_format`).
unfoldable pub entry_departs : Entry → Option ℕ
entry_departs entry = if entry.kind == CONNECT then connect_departs entry.body else if entry.kind == DISCONNECT then hash_departs entry.body else Some 0

-- what stands at a gate's place
pub data Found : Type 0 where
  closed : Found
  found : Entry → Found
  departs : ℕ → Found

abbrev pub formed : ℕ → Entry → Option ℕ → Found
formed at entry None = found entry
formed at entry (Some place) = departs (at + 5 + place)

abbrev pub entry_at : ℕ → List ℕ → Found
entry_at at [] = departs (at + 5)
entry_at at (kind ∷ body) = formed at (record { kind = kind; body = body }) (entry_departs (record { kind = kind; body = body }))

abbrev pub content_at : ℕ → ℕ → List ℕ → Found
content_at at size content = if nat_lt (length content) size then departs (at + 5) else entry_at at content

abbrev pub sized_at : ℕ → List ℕ → List ℕ → Found
sized_at at (a ∷ b ∷ c ∷ d ∷ []) rest = let size = from_le_bytes w32 (a ∷ b ∷ c ∷ d ∷ []) in content_at at size (take size rest)
sized_at at short rest = departs (at + 1)

abbrev pub by_gate : ℕ → List ℕ → List ℕ → Found
by_gate at [] behind = departs at
by_gate at (gate ∷ more) behind = if gate == 1 then sized_at at (take 4 behind) (drop 4 behind) else closed

-- by the file from the gate's place on
unfoldable pub found_at : ℕ → List ℕ → Found
found_at at text = by_gate at (take 1 text) (drop 1 text)

-- as far as it is told, an open gate stands at this place of file 0, with this record in form, and behind it is this
-- place
pub record IsRecord (told : Told) (at : ℕ) (entry : Entry) (behind : ℕ) : Type 0 where
  pub form : entry_departs entry ≡ None
  pub place : behind ≡ at + size_of_record entry
  pub short : IsShort entry
  pub text : IfReads told (λ all. drop at all.zeroth ≡ 1 ∷ (entry_text entry ++ drop behind all.zeroth))
