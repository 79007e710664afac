-- When what a snapshot holds is a machine: it is read row by row, and folded height by height.
use Rattle.std.specs.Prelude.{◌≡◌, ℕ, suc, ◌+◌, ◌≤◌, false, List, [], ◌∷◌, ◌++◌, Option, Some}
use Rattle.std.specs.List.{All, AllByRecursion}
use Rattle.dmn_block.specs.State.{State}
use Rattle.dmn_bytes.specs.declared.hash.Hash256.{Hash256}
use Rattle.dmn_bytes.specs.Points.{is_zero}
use Rattle.dmn_held.specs.declared.coinbase.CoinbasePart.{CoinbasePart}
use Rattle.dmn_held.specs.declared.data.HeightData.{HeightData}
use Rattle.dmn_held.specs.declared.data.SnapshotData.{SnapshotData}
use Rattle.dmn_held.specs.Defs.{IsHeld}
use Rattle.dmn_payloads.specs.declared.mined.MinedAt.{MinedAt}
use Rattle.dmn_quorums.specs.Duty.{active_at, mined_at, types_of}
use Rattle.dmn_restore.specs.Lists.{lists_of, lowest_list, next_list}
use Rattle.dmn_restore.specs.Proper.{AreProper}
use Rattle.dmn_rows.specs.declared.profile.Profile.{Profile}
use Rattle.dmn_rows.specs.Listing.{Listing}
use Rattle.dmn_rows.specs.Rows.{plain_rows}
use Rattle.dmn_branch.specs.Coinbases.{coinbase_of}
use Rattle.dmn_branch.specs.Machine.{MachineState, held_states, low, profile, tip, top}

-- what is read of one height: the block's hash, what proves its coinbase, the list, and the quorums that were active at the
-- lowest height with the commitments that were mined since
pub record Reading : Type 0 where
  pub hash : Hash256
  pub coinbase : Option CoinbasePart
  pub list : Listing
  pub mined : List MinedAt

abbrev pub lowest : SnapshotData → Reading
lowest held = record { hash = held.low_hash; coinbase = held.coinbase; list = lowest_list held; mined = held.active }

-- what is read of this height, behind the one before it
abbrev pub next_reading : ℕ → Reading → HeightData → Reading
next_reading height before d = record { hash = d.hash; coinbase = Some d.coinbase; list = next_list before.list d; mined = before.mined ++ mined_at height d.mined }

-- what is read of the heights behind this one
abbrev pub readings_behind : ℕ → Reading → List HeightData → List Reading
readings_behind height before [] = []
readings_behind height before (d ∷ heights) = next_reading (suc height) before d ∷ readings_behind (suc height) (next_reading (suc height) before d) heights

-- what is read of each height, from the lowest one on
abbrev pub readings : SnapshotData → List Reading
readings held = lowest held ∷ readings_behind held.low (lowest held) held.heights

-- What is read gives a state: its hash and coinbase, its rows as they are seen at its height, its outputs, and for each type
-- its active quorums.
pub record Gives (profile : Profile) (reading : Reading) (state : State) : Type 0 where
  pub hash : reading.hash ≡ state.hash
  pub coinbase : reading.coinbase ≡ coinbase_of state
  pub rows : plain_rows state.height reading.list.rows ≡ state.rows
  pub outputs : reading.list.outputs ≡ state.outputs
  pub quorums : AllByRecursion (λ params. active_at reading.mined params state.height ≡ active_at state.mined params state.height) (types_of profile.quorums)

-- height by height
abbrev pub AllGive : Profile → List Reading → List State → Type 0
AllGive profile [] [] = Unit {0}
AllGive profile (reading ∷ readings) (state ∷ states) = Gives profile reading state × AllGive profile readings states
AllGive profile [] (state ∷ states) = ⊥
AllGive profile (reading ∷ readings) [] = ⊥

-- What a snapshot holds, in its form, is this machine: the top and the lowest height that is held are the machine's, and each
-- height that is held is read. The list of each height has distinct keys, no penalty of a later height, and not too many rows and
-- outputs. No quorum is active at the lowest height that was mined later.
pub record Holds (held : SnapshotData) (m : MachineState) : Type 0 where
  pub form : IsHeld held
  pub top : held.top ≡ top m
  pub low : held.low ≡ low m
  pub states : AllGive (profile m) (readings held) (held_states m)
  pub proper : AreProper held.low (lists_of held)
  pub hashes : AllByRecursion (λ reading. is_zero reading.hash.0 ≡ false) (readings held)
  pub active : All (λ quorum. quorum.height ≤ held.low) held.active
  -- the tip isn't above the top, and not deeper below it than blocks are taken back
  pub below : (tip m).height ≤ held.top
  pub reach : held.top ≤ (tip m).height + (profile m).depth
