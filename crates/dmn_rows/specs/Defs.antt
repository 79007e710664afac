-- What a registry starts from, and the numbers by which it works. A reader begins here; the parts are:
--   Profile  the two profiles, by their tables
--   Row      a stored row, and the row that it stands for at a height; bans, and since when a row waits to be paid
--   RowText  the text of a row, field by field
--   Rows     what is looked up in a list of rows and in a list of outputs, and how the lists change
--   Sorted   lists in strictly ascending order of a key, and their changes
--   Ranked   values in the order of their rank, and the least of them
--   Waiting  who waits to be confirmed and to be paid, and in which order
--   Listing  a list of rows and a list of outputs, as they are kept
--   Distinct keys that no two rows have
--   Start    the start record's format, field by field
--   Fault    what a fault of a start record says of its text
--   Verdict  a verdict's format, field by field
--   Rule     the rules' numbers and names
--   Table    tables of rules, and the first broken one
--   Order    the broken rules of a table by their numbers
--   Signed   the rules on a verdict that is needed
use Rattle.std.specs.Prelude.{◌≡◌, ℕ, ◌≤◌, List, length}
use Rattle.dmn_rows.specs.declared.start.StartRecord.{StartRecord}
use Rattle.dmn_rows.specs.Start.{start_record, height_max, most_outputs}

-- the record keeps its format's bounds and order, so it has a text
abbrev pub IsStart : StartRecord → Type 0
IsStart = start_record.Fits

abbrev pub start_text : StartRecord → List ℕ
start_text = start_record.text

-- the text is, whole, that of this start record
abbrev pub IsStartText : List ℕ → StartRecord → Type 0
IsStartText text start = IsStart start × (text ≡ start_text start)

-- the bounds that each start record keeps
pub record KeepsBounds (start : StartRecord) : Type 0 where
  pub profile : (1 ≤ start.profile) × (start.profile ≤ 2)
  pub first : (1 ≤ start.first) × (start.first ≤ height_max)
  pub outputs : length start.outputs ≤ most_outputs
