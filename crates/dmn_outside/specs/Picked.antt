-- A file of a disk in memory, with the image of it that is picked.
use Rattle.std.specs.Prelude.{◌≡◌, ℕ, List}
use Rattle.dmn_outside.specs.Disk.{File, Leaves, Three, Told, nothing, contents, whole}
use Rattle.dmn_outside.specs.declared.image.Pick.{Pick}
use Rattle.dmn_outside.specs.declared.image.Pick.TheVariants.{Before}

-- It is one that a crash may leave. Before all that isn't synced it is what the last sync made sure of.
pub record IsPicked (how : Pick) (f : File) (image : List ℕ) : Type 0 where
  pub left : Leaves f.sure f.begun image
  pub lost : how ≡ Before → image ≡ f.sure

-- of each file
pub record ArePicked (how : Pick) (files : Three File) (image : Three (List ℕ)) : Type 0 where
  pub zeroth : IsPicked how files.zeroth image.zeroth
  pub first : IsPicked how files.first image.first
  pub second : IsPicked how files.second image.second

-- a file as it reads, with such an image
pub record Follows (how : Pick) (f : File) (reads image : List ℕ) : Type 0 where
  pub same : reads ≡ f.reads
  pub picked : IsPicked how f image

-- of the disk that is told
abbrev pub IsImage : Pick → Told → Three (List ℕ) → Type 0
IsImage how nothing image = ⊥
IsImage how (contents c) image = ⊥
IsImage how (whole w) image = ArePicked how w.files image
