-- What writing a slot does to its file.
use Rattle.std.specs.Prelude.{◌≡◌, ◌≢◌, ◌⊎◌, ℕ, zero, suc, List, [], ◌∷◌, ◌++◌, None, Some}
use Rattle.dmn_outside.specs.Changes.{file_synced}
use Rattle.dmn_outside.specs.Disk.{Three, Told, nothing, contents, whole, Leaves, pick}
use Rattle.dmn_snapshot.specs.Slot.{slot_in}
use Rattle.dmn_snapshot.specs.declared.slot.Stored.{Stored}

-- As far as it is told, this file has P, and nothing of it is pending.
abbrev pub Has : ℕ → (List ℕ → Type 0) → Told → Type 0
Has file P nothing = Unit {0}
Has file P (contents c) = P (pick file c)
Has file P (whole w) = P (pick file w.files).reads × (pick file w.files ≡ file_synced (pick file w.files))

abbrev pub IsStill : ℕ → Told → Type 0
IsStill file told = Has file (λ text. Unit {0}) told

-- its gate isn't 1
pub record IsShut (file : List ℕ) : Type 0 where
  pub gate : ℕ
  pub rest : List ℕ
  pub shut : gate ≢ 1
  pub is : file ≡ gate ∷ rest

-- its gate is open over this text
pub record IsOpen (text : List ℕ) (file : List ℕ) : Type 0 where
  pub rest : List ℕ
  pub is : file ≡ 1 ∷ (text ++ rest)

-- its gate is shut over this text
pub record IsLaid (text : List ℕ) (file : List ℕ) : Type 0 where
  pub gate : ℕ
  pub rest : List ℕ
  pub is : file ≡ gate ∷ (text ++ rest)

-- what the other files might have been left as before; there is nothing where images aren't told
abbrev pub OthersLeft : ℕ → Told → Three (List ℕ) → Type 0
OthersLeft file nothing image = ⊥
OthersLeft file (contents c) image = ⊥
OthersLeft zero (whole w) image = Leaves w.files.first.sure w.files.first.begun image.first × Leaves w.files.second.sure w.files.second.begun image.second
OthersLeft (suc zero) (whole w) image = Leaves w.files.zeroth.sure w.files.zeroth.begun image.zeroth × Leaves w.files.second.sure w.files.second.begun image.second
OthersLeft (suc (suc n)) (whole w) image = Leaves w.files.zeroth.sure w.files.zeroth.begun image.zeroth × Leaves w.files.first.sure w.files.first.begun image.first

-- what a read of this file gives, where that is told
abbrev pub read_of : ℕ → Told → List ℕ
read_of file nothing = []
read_of file (contents c) = pick file c
read_of file (whole w) = (pick file w.files).reads

-- while a gate is closed: no valid slot, or the one of before
pub record Closing (file : ℕ) (before : Told) (image : Three (List ℕ)) : Type 0 where
  pub slot : (slot_in (pick file image) ≡ None) ⊎ (slot_in (pick file image) ≡ slot_in (read_of file before))
  pub others : OthersLeft file before image

-- while a slot is written: no valid slot, or the one of before, or an open gate over the new text
pub record Opening (file : ℕ) (text : List ℕ) (before : Told) (image : Three (List ℕ)) : Type 0 where
  pub slot : (slot_in (pick file image) ≡ None) ⊎ (slot_in (pick file image) ≡ slot_in (read_of file before)) ⊎ IsOpen text (pick file image)
  pub others : OthersLeft file before image

-- No valid slot, or the one of before, or the new one whole; the other files as they might have been left before.
pub record Writing (file : ℕ) (stored : Stored) (before : Told) (image : Three (List ℕ)) : Type 0 where
  pub slot : (slot_in (pick file image) ≡ None) ⊎ (slot_in (pick file image) ≡ slot_in (read_of file before)) ⊎ (slot_in (pick file image) ≡ Some stored)
  pub others : OthersLeft file before image
