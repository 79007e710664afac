-- What a snapshot tells of a machine, without what follows of the machine.
use Rattle.std.specs.Prelude.{◌≡◌, ℕ, suc, ◌≤◌, List, [], ◌∷◌}
use Rattle.std.specs.List.{All}
use Rattle.dmn_branch.specs.Holds.{AllGive, readings}
use Rattle.dmn_branch.specs.Machine.{MachineState, held_states, low, profile, top}
use Rattle.dmn_held.specs.declared.data.SnapshotData.{SnapshotData}
use Rattle.dmn_held.specs.Defs.{IsHeld}
use Rattle.dmn_restore.specs.Lists.{lists_of}
use Rattle.dmn_restore.specs.Proper.{HasPenaltiesTo}
use Rattle.dmn_rows.specs.Listing.{Listing}

-- no penalty is that of a later height, from this height on, height by height
abbrev pub HavePenaltiesTo : ℕ → List Listing → Type 0
HavePenaltiesTo height [] = Unit {0}
HavePenaltiesTo height (list ∷ lists) = HasPenaltiesTo height list.rows × HavePenaltiesTo (suc height) lists

-- The top and the lowest height are the machine's, and each height that is held is read. No penalty is that of a later height, and
-- no quorum is active at the lowest height that was mined later.
pub record Tells (held : SnapshotData) (m : MachineState) : Type 0 where
  pub form : IsHeld held
  pub top : held.top ≡ top m
  pub low : held.low ≡ low m
  pub states : AllGive (profile m) (readings held) (held_states m)
  pub penalties : HavePenaltiesTo held.low (lists_of held)
  pub active : All (λ quorum. quorum.height ≤ held.low) held.active
