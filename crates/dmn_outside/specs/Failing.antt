-- When a device fails, where it tells that: where bytes do not fit the room that is left, or at the calls of a plan.
use Rattle.std.specs.Prelude.{◌≡◌, ◌⊎◌, ℕ, ◌+◌, ◌<◌, ◌≤◌, List, Option, Contains, IsErr, IsSomeAnd, Result, Ok, Err}
use Rattle.dmn_outside.specs.declared.line.Failed.{Failed}
use Rattle.dmn_outside.specs.Counts.{raised}
use Rattle.dmn_outside.specs.Disk.{DiskView}
use Rattle.dmn_outside.specs.Line.{LineView}

-- ---- a line that tells how many bytes more may be sent

-- as much room as before, and no fault
pub record KeepsRoom (before now : ℕ) (old new : LineView) : Type 0 where
  pub room : now ≡ before
  pub faults : new.faults ≡ old.faults
  pub callers : new.caller_faults ≡ old.caller_faults

-- so many bytes fitted the room, and were sent without a fault
pub record SpendsRoom (size before now : ℕ) (old new : LineView) : Type 0 where
  pub room : now + size ≡ before
  pub faults : new.faults ≡ old.faults

-- so many bytes did not fit the room: one fault, and the room is as before
pub record LacksRoom (size before now : ℕ) (old new : LineView) : Type 0 where
  pub lacks : before < size
  pub room : now ≡ before
  pub faults : new.faults ≡ raised old.faults

-- a call that sends nothing does not fail
abbrev pub KeepsSurely : {T : Type 0} → Result T Failed → ℕ → ℕ → LineView → LineView → Type 0
KeepsSurely (Ok value) before now old new = KeepsRoom before now old new
KeepsSurely (Err failed) before now old new = ⊥

-- a piece of so many bytes is sent whole, or it does not fit and nothing of it is sent
abbrev pub SendsSurely : ℕ → Result ℕ Failed → ℕ → ℕ → LineView → LineView → Type 0
SendsSurely size (Ok n) before now old new = (n ≡ size) × SpendsRoom size before now old new
SendsSurely size (Err failed) before now old new = LacksRoom size before now old new

-- the same of all bytes
abbrev pub SendsAllSurely : ℕ → Result (Unit {0}) Failed → ℕ → ℕ → LineView → LineView → Type 0
SendsAllSurely size (Ok done) before now old new = SpendsRoom size before now old new
SendsAllSurely size (Err failed) before now old new = LacksRoom size before now old new

-- ---- a disk that tells how long a write may make a file

-- the same length as before, and no fault
pub record KeepsDisk (old new : DiskView) : Type 0 where
  pub room : new.room ≡ old.room
  pub faults : new.faults ≡ old.faults

-- a write that ends at this length does not fit: one fault
pub record LacksDisk (end : ℕ) (old new : DiskView) : Type 0 where
  pub lacks : old.room < end
  pub room : new.room ≡ old.room
  pub faults : new.faults ≡ raised old.faults

-- a call that writes nothing does not fail
abbrev pub DoesSurely : {T : Type 0} → Result T Failed → DiskView → DiskView → Type 0
DoesSurely (Ok value) old new = KeepsDisk old new
DoesSurely (Err failed) old new = ⊥

-- a write that ends at this length is done, or it does not fit
abbrev pub WritesSurely : ℕ → Result (Unit {0}) Failed → DiskView → DiskView → Type 0
WritesSurely end (Ok done) old new = (end ≤ old.room) × KeepsDisk old new
WritesSurely end (Err failed) old new = LacksDisk end old new

-- ---- a device that tells at which of its calls it is to fail

-- the numbers of these calls, and the number from which on each is one
pub record Plan : Type 0 where
  pub fails : List ℕ
  pub stop : Option ℕ

abbrev pub IsListed : Plan → ℕ → Type 0
IsListed plan number = Contains plan.fails number ⊎ IsSomeAnd plan.stop (λ stop. stop ≤ number)

-- the call of this number fails where the plan has it, and the plan stays
pub record IsPlanned {T : Type 0} (plan after : Plan) (number : ℕ) (result : Result T Failed) : Type 0 where
  pub same : after ≡ plan
  pub fails : IsListed plan number → IsErr result

-- and nowhere else
pub record IsPlannedAlone {T : Type 0} (plan after : Plan) (number : ℕ) (result : Result T Failed) : Type 0 where
  pub planned : IsPlanned plan after number result
  pub only : IsErr result → IsListed plan number
