-- What a crash at any moment of a run of calls leaves, and a disk on which nothing is pending.
use Rattle.std.specs.Prelude.{◌≡◌, ◌⊎◌, ℕ, ◌≤◌, List}
use Rattle.dmn_outside.specs.Disk.{Three, File, Told, nothing, contents, whole, DiskView, all_reads, Since}
use Rattle.dmn_outside.specs.Changes.{file_synced, MayChange}

-- A crash at any moment from the start on leaves an image that has P. At the start the disk was old, and it is new now.
pub record LeavesOnly (start : ℕ) (old new : DiskView) (P : Three (List ℕ) → Type 0) : Type 0 where
  pub each : (image : Three (List ℕ)) → Since new start image → P image
  -- for a run that began earlier: what was possible before this one, or has P
  pub before : (t : ℕ) (image : Three (List ℕ)) → t ≤ start → Since new t image → Since old t image ⊎ P image

-- Nothing of these files is pending.
pub record AreSynced (files : Three File) : Type 0 where
  pub zeroth : files.zeroth ≡ file_synced files.zeroth
  pub first : files.first ≡ file_synced files.first
  pub second : files.second ≡ file_synced files.second

-- As far as it is told: what reads give has P, and a crash leaves nothing else.
abbrev pub Rests : (Three (List ℕ) → Type 0) → Told → Type 0
Rests P nothing = Unit {0}
Rests P (contents c) = P c
Rests P (whole w) = P (all_reads w.files) × AreSynced w.files

-- The contents are told, they have P, and a crash leaves nothing else.
abbrev pub IsKnown : (Three (List ℕ) → Type 0) → Told → Type 0
IsKnown P nothing = ⊥
IsKnown P (contents c) = P c
IsKnown P (whole w) = P (all_reads w.files) × AreSynced w.files

-- ---- the rule that joins calls to runs

-- Behind a call of the disk, done or not, an image of a crash since t was one before the call, or is one of a crash since
-- the call's own start.
abbrev pub CallsJoin : Type 0
CallsJoin = (start at : ℕ) (step : Told → Told) (old new : DiskView) (t : ℕ) (image : Three (List ℕ)) → MayChange at step old new → Since new t image → Since old t image ⊎ Since new start image
