-- A disk of three files: what a read gives, and what a crash may leave now or might have left before.
use Rattle.std.specs.Prelude.{◌≡◌, ◌⊎◌, ℕ, zero, suc, ◌+◌, ◌<◌, ◌≤◌, max, Bool, true, false, List, [], ◌∷◌, length, take, drop, Option}

-- one for each file
pub record Three (A : Type 0) : Type 0 where
  pub zeroth : A
  pub first : A
  pub second : A

-- that of a file, by the file's number
abbrev pub pick : {A : Type 0} → ℕ → Three A → A
pick zero three = three.zeroth
pick (suc zero) three = three.first
pick (suc (suc n)) three = three.second

-- all three, with a change of one of them
abbrev pub change : {A : Type 0} → ℕ → (A → A) → Three A → Three A
change zero f three = record { zeroth = f three.zeroth; first = three.first; second = three.second }
change (suc zero) f three = record { zeroth = three.zeroth; first = f three.first; second = three.second }
change (suc (suc n)) f three = record { zeroth = three.zeroth; first = three.first; second = f three.second }

-- ---- one file

-- what was begun and isn't synced: a write of so many bytes at a place, a cut to a length
pub data Begun : Type 0 where
  wrote : ℕ → ℕ → Begun
  cut : ℕ → Begun

-- a file: what a read gives, what the last sync made sure of, and what was begun since, the newest first
pub record File : Type 0 where
  pub reads : List ℕ
  pub sure : List ℕ
  pub begun : List Begun

-- After a write of n bytes that a crash cuts short the range, and what lies behind the old end, may hold any bytes, and
-- the length may be any between the old one and the end of the range. All else stays.
pub record Torn (at n : ℕ) (old new : List ℕ) : Type 0 where
  pub before : take (length (take at old)) new ≡ take at old
  pub after : drop (at + n) new ≡ drop (at + n) old
  pub no_shorter : length old ≤ length new
  pub no_longer : length new ≤ max (length old) (at + n)

-- what a crash may make of a step that was begun: a write is torn, a cut has happened or not
abbrev pub Happens : Begun → List ℕ → List ℕ → Type 0
Happens (wrote at n) old new = Torn at n old new
Happens (cut n) old new = (new ≡ old) ⊎ (new ≡ take n old)

-- What a crash may leave of a file of which a text is sure, where these steps were begun since.
abbrev pub Leaves : List ℕ → List Begun → List ℕ → Type 0
Leaves sure [] image = image ≡ sure
Leaves sure (step ∷ steps) image = (d : List ℕ) × Leaves sure steps d × Happens step d image

-- ---- all files

-- The files are independent: an image of a crash is one of each file.
pub record LeavesEach (files : Three File) (image : Three (List ℕ)) : Type 0 where
  pub zeroth : Leaves files.zeroth.sure files.zeroth.begun image.zeroth
  pub first : Leaves files.first.sure files.first.begun image.first
  pub second : Leaves files.second.sure files.second.begun image.second

abbrev pub all_reads : Three File → Three (List ℕ)
all_reads files = record { zeroth = files.zeroth.reads; first = files.first.reads; second = files.second.reads }

-- how many bytes of a file were read, and the least place that was read
pub record Reads : Type 0 where
  pub bytes : ℕ
  pub least : Option ℕ

-- the files, and what was read of each
pub record Crash : Type 0 where
  pub files : Three File
  pub read : Three Reads

-- ---- what is told

-- what a station tells of its disk now: nothing, what reads give, or that and what a crash leaves
pub data Told : Type 0 where
  nothing : Told
  contents : Three (List ℕ) → Told
  whole : Crash → Told

-- a state of the files that is over, and its last moment
pub record Past : Type 0 where
  pub ended : ℕ
  pub files : Three File

-- all that a disk means: what is told now, the states that are over with the newest first, how often a call failed, and
-- how long a write may make a file, where that is told
pub record DiskView : Type 0 where
  pub told : Told
  pub past : List Past
  pub faults : ℕ
  pub room : ℕ

abbrev pub has_contents : Told → Bool
has_contents nothing = false
has_contents (contents c) = true
has_contents (whole w) = true

abbrev pub has_images : Told → Bool
has_images nothing = false
has_images (contents c) = false
has_images (whole w) = true

-- A station tells what reads give where it tells its contents, and what a crash leaves where it tells its moments.
pub record TellsAsMuch (contents moments : Bool) (told : Told) : Type 0 where
  pub reads : has_contents told ≡ contents
  pub images : has_images told ≡ moments

-- what reads give has P, where it is told
abbrev pub IfReads : Told → (Three (List ℕ) → Type 0) → Type 0
IfReads nothing P = Unit {0}
IfReads (contents c) P = P c
IfReads (whole w) P = P (all_reads w.files)

-- what a crash at this moment may leave
abbrev pub MayLeave : Told → Three (List ℕ) → Type 0
MayLeave nothing image = ⊥
MayLeave (contents c) image = ⊥
MayLeave (whole w) image = LeavesEach w.files image

-- what a crash at this moment may leave of one file
abbrev pub FileMayLeave : Told → ℕ → List ℕ → Type 0
FileMayLeave nothing file text = ⊥
FileMayLeave (contents c) file text = ⊥
FileMayLeave (whole w) file text = let f = pick file w.files in Leaves f.sure f.begun text

-- A disk as it reads is one of its images.
abbrev pub ReadsAreLeft : Told → Type 0
ReadsAreLeft nothing = Unit {0}
ReadsAreLeft (contents c) = Unit {0}
ReadsAreLeft (whole w) = LeavesEach w.files (all_reads w.files)

-- ---- moments

-- one of these states may leave it, whose last moment is t or later
abbrev pub SinceIn : List Past → ℕ → Three (List ℕ) → Type 0
SinceIn [] t image = ⊥
SinceIn (s ∷ states) t image = ((t ≤ s.ended) × LeavesEach s.files image) ⊎ SinceIn states t image

-- what a crash at some moment from t on might have left
abbrev pub Since : DiskView → ℕ → Three (List ℕ) → Type 0
Since disk t image = MayLeave disk.told image ⊎ SinceIn disk.past t image

-- Each of these states ended before the moment t.
abbrev pub AreOver : ℕ → List Past → Type 0
AreOver t [] = Unit {0}
AreOver t (s ∷ states) = (s.ended < t) × AreOver t states
