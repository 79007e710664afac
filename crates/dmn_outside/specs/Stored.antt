-- A disk in memory: what it began with, and what was done to it. What it tells is a replay of this.
use Rattle.std.specs.Prelude.{ℕ, ◌<◌, List, [], ◌∷◌, length, slice_index_or}
use Rattle.std.specs.Coded.{×_prop, Unit-prop, le_prop}
use Rattle.dmn_outside.specs.Disk.{Three, change, File, Crash, Past, Reads, Told, whole, DiskView, all_reads}
use Rattle.dmn_outside.specs.Changes.{file_wrote, file_torn, file_cut, file_cut_torn, file_synced, none_read}
use Rattle.dmn_outside.specs.declared.image.Image.{Image}
use Rattle.dmn_outside.specs.declared.log.Act.{Act}
use Rattle.dmn_outside.specs.declared.log.Act.TheVariants.{Wrote, Tore, Cut, CutTorn, Synced}
use Rattle.dmn_outside.specs.declared.log.Change.{Change}
use Rattle.dmn_outside.specs.declared.log.HeldFiles.{HeldFiles}
use Rattle.dmn_outside.specs.declared.log.ReadCounts.{ReadCounts}
use Rattle.dmn_outside.specs.declared.log.Log.{Log}

abbrev pub image_texts : Image → Three (List ℕ)
image_texts image = record { zeroth = slice_index_or image.files 0 []; first = slice_index_or image.files 1 []; second = slice_index_or image.files 2 [] }

abbrev pub begun_of : HeldFiles → Three (List ℕ)
begun_of files = record { zeroth = files.zeroth.begun; first = files.first.begun; second = files.second.begun }

abbrev pub now_of : HeldFiles → Three (List ℕ)
now_of files = record { zeroth = files.zeroth.reads; first = files.first.reads; second = files.second.reads }

abbrev pub read_of : ReadCounts → Three Reads
read_of counts = record { zeroth = counts.zeroth; first = counts.first; second = counts.second }

-- a file on which nothing is pending
abbrev pub settled : List ℕ → File
settled text = record { reads = text; sure = text; begun = [] }

abbrev pub begin : Three (List ℕ) → Three File
begin texts = record { zeroth = settled texts.zeroth; first = settled texts.first; second = settled texts.second }

-- a disk at its start
abbrev pub told_of_texts : Three (List ℕ) → Told
told_of_texts texts = whole (record { files = begin texts; read = none_read })

abbrev pub acted : Act → File → File
acted (Wrote at bytes) = file_wrote at bytes.items
acted (Tore at bytes) = file_torn at (length bytes.items)
acted (Cut n) = file_cut n
acted (CutTorn n) = file_cut_torn n
acted Synced = file_synced

-- the files after these changes, the oldest first
unfoldable pub replayed : Three File → List Change → Three File
replayed files [] = files
replayed files (c ∷ changes) = replayed (change c.file (acted c.act) files) changes

-- the states before each of them, the newest first
unfoldable pub past_from : Three File → List Past → List Change → List Past
past_from files past [] = past
past_from files past (c ∷ changes) = past_from (change c.file (acted c.act) files) (record { ended = c.moment; files = files } ∷ past) changes

abbrev pub past_by : Three (List ℕ) → List Change → List Past
past_by begun changes = past_from (begin begun) [] changes

-- Each change was made before the moment t.
abbrev pub AreBefore : ℕ → List Change → Type 0
AreBefore t [] = Unit {0}
AreBefore t (c ∷ changes) = (c.moment < t) × AreBefore t changes

pub AreBefore-prop : (t : ℕ) (changes : List Change) → IsProp (AreBefore t changes)
AreBefore-prop t [] = Unit-prop
AreBefore-prop t (c ∷ changes) = ×_prop le_prop (AreBefore-prop t changes)

unfoldable pub crash_by : Three (List ℕ) → List Change → Three Reads → Crash
crash_by begun changes read = record { files = replayed (begin begun) changes; read = read }

abbrev pub told_by : Three (List ℕ) → List Change → Three Reads → Told
told_by begun changes read = whole (crash_by begun changes read)

-- what reads give
unfoldable pub contents_by : Three (List ℕ) → List Change → Three (List ℕ)
contents_by begun changes = all_reads (replayed (begin begun) changes)

abbrev pub told_of : Log → Told
told_of log = told_by (begun_of log.files) log.changes.items (read_of log.counts)

abbrev pub past_of : Log → List Past
past_of log = past_by (begun_of log.files) log.changes.items

abbrev pub view_of : ℕ → Log → DiskView
view_of faults log = record { told = told_of log; past = past_of log; faults = faults; room = 0 }
