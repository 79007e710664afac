-- What each call of a disk does to what is told of it.
use Rattle.std.specs.Prelude.{◌≡◌, ◌⊎◌, ℕ, ◌+◌, ◌-◌, ◌^◌, min, List, [], ◌∷◌, ◌++◌, length, take, drop, replicate, Option, Some, None, if◌then◌else◌, nat_lt, nat_eq}
use Rattle.dmn_outside.specs.Disk.{Three, change, pick, wrote, cut, File, Reads, Crash, Told, nothing, contents, whole, Past, DiskView}

-- ---- one file

-- these bytes at this place, with zeros in front of them where it lies behind the end
abbrev pub placed : ℕ → List ℕ → List ℕ → List ℕ
placed at bytes old = take at old ++ replicate (at - length old) 0 ++ bytes ++ drop (at + length bytes) old

abbrev pub file_wrote : ℕ → List ℕ → File → File
file_wrote at bytes file = record { reads = placed at bytes file.reads; sure = file.sure; begun = wrote at (length bytes) ∷ file.begun }

-- a write that failed: no read shows it, and a crash may
abbrev pub file_torn : ℕ → ℕ → File → File
file_torn at n file = record { reads = file.reads; sure = file.sure; begun = wrote at n ∷ file.begun }

-- a cut to a length at or above the size changes nothing
abbrev pub file_cut : ℕ → File → File
file_cut n file = if nat_lt n (length file.reads) then record { reads = take n file.reads; sure = file.sure; begun = cut n ∷ file.begun } else file

abbrev pub file_cut_torn : ℕ → File → File
file_cut_torn n file = if nat_lt n (length file.reads) then record { reads = file.reads; sure = file.sure; begun = cut n ∷ file.begun } else file

-- after a sync a crash leaves what a read gives
abbrev pub file_synced : File → File
file_synced file = record { reads = file.reads; sure = file.reads; begun = [] }

-- n bytes from this place on: all that are asked for and are there, and the rest of the buffer as it was
pub record ReadsAt (text : List ℕ) (at n : ℕ) (old new : List ℕ) : Type 0 where
  pub count : n ≡ min (length old) (length text - at)
  pub front : take n new ≡ take n (drop at text)
  pub back : drop n new ≡ drop n old

abbrev pub least_of : ℕ → Option ℕ → ℕ
least_of at None = at
least_of at (Some least) = min at least

-- A read that gives no byte is not counted. The count stands still at its last value, as each count does.
abbrev pub reads_more : ℕ → ℕ → Reads → Reads
reads_more at n reads = if nat_eq n 0 then reads else record { bytes = min (reads.bytes + n) (2 ^ 64 - 1); least = Some (least_of at reads.least) }

-- ---- all that is told

-- a change of one file
unfoldable pub moved : ℕ → (File → File) → Crash → Crash
moved file f w = record { files = change file f w.files; read = w.read }

-- A change of one file: f of what a read gives where that is told, g of the file where all is told. That both say the same
-- is seen at the five uses below.
unfoldable pub after : ℕ → (List ℕ → List ℕ) → (File → File) → Told → Told
after file f g nothing = nothing
after file f g (contents c) = contents (change file f c)
after file f g (whole w) = whole (moved file g w)

abbrev pub after_write : ℕ → ℕ → List ℕ → Told → Told
after_write file at bytes = after file (placed at bytes) (file_wrote at bytes)

abbrev pub after_torn : ℕ → ℕ → ℕ → Told → Told
after_torn file at n = after file (λ old. old) (file_torn at n)

abbrev pub after_cut : ℕ → ℕ → Told → Told
after_cut file n = after file (take n) (file_cut n)

abbrev pub after_cut_torn : ℕ → ℕ → Told → Told
after_cut_torn file n = after file (λ old. old) (file_cut_torn n)

abbrev pub after_sync : ℕ → Told → Told
after_sync file = after file (λ old. old) file_synced

-- three texts written one behind the other
abbrev pub after_three : ℕ → ℕ → List ℕ → List ℕ → List ℕ → Told → Told
after_three file at first second third told =
    after_write file (at + length first + length second) third (after_write file (at + length first) second (after_write file at first told))

unfoldable pub after_read : ℕ → ℕ → ℕ → Told → Told
after_read file at n nothing = nothing
after_read file at n (contents c) = contents c
after_read file at n (whole w) = whole (record { files = w.files; read = change file (reads_more at n) w.read })

-- how many bytes of a file were read so far, where that is told
unfoldable pub bytes_read : ℕ → Told → ℕ
bytes_read file nothing = 0
bytes_read file (contents c) = 0
bytes_read file (whole w) = (pick file w.read).bytes

-- what is told of the other files, and of what was read
unfoldable pub but : ℕ → Told → Told
but file nothing = nothing
but file (contents c) = contents (change file (λ old. []) c)
but file (whole w) = whole (record { files = change file (λ old. record { reads = []; sure = []; begun = [] }) w.files; read = w.read })

-- nothing was read of any file
abbrev pub none_read : Three Reads
none_read = record { zeroth = record { bytes = 0; least = None }; first = record { bytes = 0; least = None }; second = record { bytes = 0; least = None } }

-- what is told, but for what was read
abbrev pub unread : Told → Told
unread nothing = nothing
unread (contents c) = contents c
unread (whole w) = whole (record { files = w.files; read = none_read })

-- ---- a call

-- the states that are over once one ended with the moment t, where images are told
abbrev pub past_after : ℕ → Told → List Past → List Past
past_after t nothing past = past
past_after t (contents c) past = past
past_after t (whole w) past = record { ended = t; files = w.files } ∷ past

-- a change by a call at the moment t: what was there before ended with it
pub record Changes (t : ℕ) (step : Told → Told) (old new : DiskView) : Type 0 where
  pub told : new.told ≡ step old.told
  pub past : new.past ≡ past_after t old.told old.past

-- All that is told of the disk stays.
pub record Keeps (old new : DiskView) : Type 0 where
  pub told : new.told ≡ old.told
  pub past : new.past ≡ old.past

-- a failed call may have done this, or nothing
abbrev pub MayChange : ℕ → (Told → Told) → DiskView → DiskView → Type 0
MayChange t step old new = Keeps old new ⊎ Changes t step old new

-- All that is told of the disk stays, but for what was read.
pub record OnlyReads (old new : DiskView) : Type 0 where
  pub told : unread new.told ≡ unread old.told
  pub past : new.past ≡ old.past
