-- What a branch keeps, and which machine it stands for. This file alone says how lists are kept.
use Rattle.std.specs.Prelude.{◌≡◌, ℕ, suc, ◌+◌, ◌-◌, ◌^◌, ◌≤◌, ◌<◌, false, max, List, [], ◌∷◌, filter, length, map, slice_index_or, Option, Ok}
use Rattle.std.specs.List.{All, AllByRecursion, slice_index}
use Rattle.dmn_block.specs.declared.frame.BlockFrame.{BlockFrame}
use Rattle.dmn_block.specs.State.{State}
use Rattle.dmn_bytes.specs.declared.hash.Hash256.{Hash256}
use Rattle.dmn_bytes.specs.Points.{hash_cmp, is_zero}
use Rattle.dmn_indexes.specs.declared.indexes.Indexes.{Indexes}
use Rattle.dmn_indexes.specs.Marks.{IsBelow, marks_of}
use Rattle.dmn_indexes.specs.Version.{by_hash, outputs_in, rows_in, values}
use Rattle.dmn_indexes.specs.Version as versions
use Rattle.dmn_indexes.specs.Stands as trees
use Rattle.dmn_branch.specs.Coinbases.{coinbase_of}
use Rattle.dmn_held.specs.declared.coinbase.CoinbasePart.{CoinbasePart}
use Rattle.dmn_branch.specs.declared.held.Held.{Held}
use Rattle.dmn_branch.specs.declared.held.HeightVersion.{HeightVersion}
use Rattle.dmn_branch.specs.declared.held.Prepared.{Prepared}
use Rattle.dmn_branch.specs.declared.pins.Pin.{Pin}
use Rattle.dmn_merkle.specs.Defs.{zero_hash}
use Rattle.dmn_payloads.specs.declared.mined.MinedAt.{MinedAt}
use Rattle.dmn_quorums.specs.Duty.{active_at, is_of, types_of, undone}
use Rattle.dmn_rows.specs.declared.profile.Profile.{Profile}
use Rattle.dmn_rows.specs.declared.profile.QuorumParams.{QuorumParams}
use Rattle.dmn_rows.specs.declared.row.MnRow.{MnRow}
use Rattle.dmn_rows.specs.declared.start.StartRecord.{StartRecord}
use Rattle.dmn_rows.specs.Distinct.{HasDistinctKeys}
use Rattle.dmn_rows.specs.Listing.{Listing, IsAscending, OutputsAscend}
use Rattle.dmn_rows.specs.Rows.{Outputs, plain_rows}
use Rattle.dmn_rows.specs.Start.{most_outputs}
use Rattle.dmn_versions.specs.Trees.{IsSound, reads}
use Rattle.dmn_sml.specs.Defs.{root_of, simple}
use Rattle.dmn_branch.specs.Items.{version_at}
use Rattle.dmn_branch.specs.Machine as machine
use Rattle.dmn_branch.specs.Machine.{MachineState, held_states, profile, top, tip, with_block, connect}
use Rattle.dmn_branch.specs.Pins.{AreNumbered, Pinned, Pins}
use Rattle.dmn_branch.specs.Replay.{IsLawful}
use Rattle.dmn_branch.specs.Step.{most_rows}

-- what is kept of one height: rows with the heights of their penalties, and outputs
pub record Kept : Type 0 where
  pub height : ℕ
  -- the block's hash
  pub hash : Hash256
  -- the root to which the block commits
  pub root : Hash256
  pub rows : List MnRow
  pub outputs : Outputs

abbrev pub kept_of : ℕ → Hash256 → Hash256 → Listing → Kept
kept_of height hash root list = record { height = height; hash = hash; root = root; rows = list.rows; outputs = list.outputs }

-- what is kept of the height before the first block
abbrev pub first_kept : StartRecord → Kept
first_kept start = record { height = start.first - 1; hash = start.hash; root = zero_hash; rows = []; outputs = start.outputs }

-- a height as a step takes it, read from the arenas
abbrev pub kept_at : Indexes → HeightVersion → Kept
kept_at ix v = record { height = v.height; hash = v.hash; root = v.root; rows = rows_in ix v.version; outputs = outputs_in ix v.version }

-- what is held of a height
abbrev pub kept_in : Indexes → ℕ → Held → Kept
kept_in ix height held = kept_at ix (version_at height held)

-- what is held of heights that follow each other, from this one on
abbrev pub lists_in : Indexes → ℕ → List Held → List Kept
lists_in ix height [] = []
lists_in ix height (held ∷ rest) = kept_in ix height held ∷ lists_in ix (suc height) rest

-- a pinned list, read from the arena of rows
abbrev pub pinned_in : Indexes → Pin → Pinned
pinned_in ix pin = record { number = pin.number; height = pin.height; rows = plain_rows pin.height (values (reads ix.rows pin.root)) }

abbrev pub pins_in : Indexes → List Pin → Option ℕ → Pins
pins_in ix pinned next = record { live = map (pinned_in ix) pinned; next = next }

-- what a branch keeps: the versions from the lowest height that is held on, the arenas in which they are held, the lists as
-- which these read, what proves the coinbase of each of these heights, commitments that were mined, how many more heights there
-- is room for, and the pins, with what these read as
pub record Keeping : Type 0 where
  pub profile : Profile
  pub first : ℕ
  pub indexes : Indexes
  pub held : List Held
  pub mined : List MinedAt
  pub lists : List Kept
  pub coinbases : List (Option CoinbasePart)
  pub top : ℕ
  pub room : ℕ
  pub pinned : List Pin
  pub pins : Pins

-- what is kept of each height: the hash isn't zero, keys are distinct, rows and outputs ascend strictly, no penalty is that of a
-- later height, and there aren't too many rows and outputs
pub record IsWhole (kept : Kept) : Type 0 where
  pub hash : is_zero kept.hash.0 ≡ false
  pub keys : HasDistinctKeys kept.rows
  pub rows : IsAscending kept.rows
  pub outputs : OutputsAscend kept.outputs
  pub penalties : All (λ row. row.penalty_at ≤ kept.height) kept.rows
  pub masternodes : length kept.rows ≤ most_rows
  pub collaterals : length kept.outputs ≤ most_outputs

-- what is kept of a height stands for this state; the root is that of the state's list
pub record StandsAt (kept : Kept) (state : State) : Type 0 where
  pub height : kept.height ≡ state.height
  pub hash : kept.hash ≡ state.hash
  pub root : kept.root ≡ root_of (simple state.rows)
  pub rows : plain_rows state.height kept.rows ≡ state.rows
  pub outputs : kept.outputs ≡ state.outputs
  pub whole : IsWhole kept

-- height by height
abbrev pub AllStand : List Kept → List State → Type 0
AllStand [] [] = Unit {0}
AllStand (kept ∷ lists) (state ∷ states) = StandsAt kept state × AllStand lists states
AllStand [] (state ∷ states) = ⊥
AllStand (kept ∷ lists) [] = ⊥

-- the same of the trees: those of a height are those of its state, the stored rows as they are seen at the height
abbrev pub AllTreesStand : Indexes → List Held → List State → Type 0
AllTreesStand ix [] [] = Unit {0}
AllTreesStand ix (held ∷ rest) (state ∷ states) = trees.StandsAt ix held.version state.height state.rows state.outputs × AllTreesStand ix rest states
AllTreesStand ix [] (state ∷ states) = ⊥
AllTreesStand ix (held ∷ rest) [] = ⊥

-- ---- commitments

-- their heights ascend, from one on
abbrev pub MinedFrom : ℕ → List MinedAt → Type 0
MinedFrom least [] = Unit {0}
MinedFrom least (m ∷ mined) = (least ≤ m.height) × MinedFrom m.height mined

-- What is kept of the commitments of a type, up to the tip: their heights ascend, and at the height of each of these states they
-- give its active quorums, each with the height at which it was mined. Older ones may be kept or not.
pub record GivesActive (mined : List MinedAt) (tip : ℕ) (states : List State) (params : QuorumParams) : Type 0 where
  pub ordered : MinedFrom 0 (filter (is_of params tip) mined)
  pub active : AllByRecursion (λ s. active_at mined params s.height ≡ active_at s.mined params s.height) states

-- the same of each type of a profile
abbrev pub KeepsActive : Profile → List MinedAt → ℕ → List State → Type 0
KeepsActive profile mined tip states = AllByRecursion (GivesActive mined tip states) (types_of profile.quorums)

-- A branch stands for a machine: for the states that are held of it, with their coinbases and active quorums, the top, and the
-- pins. No block of the machine's branch is refused, and no number of a pin was given twice.
pub record StandsFor (branch : Keeping) (m : MachineState) : Type 0 where
  pub profile : branch.profile ≡ profile m
  pub first : branch.first ≡ m.start.first
  pub lists : AllStand branch.lists (held_states m)
  pub coinbases : branch.coinbases ≡ map coinbase_of (held_states m)
  pub trees : AllTreesStand branch.indexes branch.held (held_states m)
  pub quorums : KeepsActive (machine.profile m) branch.mined (tip m).height (held_states m)
  pub top : branch.top ≡ top m
  pub lawful : IsLawful m.start (machine.branch m)
  pub pins : branch.pins ≡ m.pins
  pub numbered : AreNumbered m.pins

-- what is kept of a height that was prepared, what proves its coinbase, and the commitments behind it
pub record Next : Type 0 where
  pub kept : Kept
  pub coinbase : Option CoinbasePart
  pub mined : List MinedAt

-- what was prepared is the state after this block, which the machine accepts
pub record IsNext (prepared : Next) (m : MachineState) (block : BlockFrame) : Type 0 where
  pub accepted : connect m block ≡ Ok (with_block m block)
  pub stands : StandsAt prepared.kept (tip (with_block m block))
  pub coinbase : prepared.coinbase ≡ coinbase_of (tip (with_block m block))
  pub quorums : KeepsActive (profile m) prepared.mined (tip (with_block m block)).height (tip (with_block m block) ∷ [])

-- ---- of a branch alone

-- the lists are those of these heights
abbrev pub AreFrom : ℕ → List Kept → Type 0
AreFrom height [] = Unit {0}
AreFrom height (kept ∷ lists) = (kept.height ≡ height) × AreFrom (suc height) lists

-- the lowest height that is held, by the first height and the top
abbrev pub low_of : Profile → ℕ → ℕ → ℕ
low_of profile first top = max (first - 1) (top - profile.kept)

-- Behind the base of a type's window so many heights are held that the base is held too, however far the tip goes back.
pub record HoldsBase (profile : Profile) (params : QuorumParams) : Type 0 where
  pub interval : 0 < params.interval
  pub behind : 1 ≤ params.from
  pub held : profile.depth + params.to ≤ profile.kept

-- What each branch keeps: a list at the lowest height that is held, and one at each height up to the tip, which is not above
-- the top, and not below the height to which it may go back. As many heights are held as a tip may go back, and the base of
-- each quorum whose commitment may be mined.
pub record IsKept (profile : Profile) (first top : ℕ) (lists : List Kept) : Type 0 where
  pub begins : 1 ≤ first
  pub some : 0 < length lists
  pub heights : AreFrom (low_of profile first top) lists
  pub tip : low_of profile first top + length lists ≤ top + 1
  pub reach : top + 1 ≤ low_of profile first top + length lists + profile.depth
  pub deep : profile.depth ≤ profile.kept
  pub bases : AllByRecursion (HoldsBase profile) (types_of profile.quorums)

-- The versions are whole, each lies below the marks of its height and of each later one, and each list keeps what lists keep.
pub record AreSound (ix : Indexes) (low : ℕ) (held : List Held) : Type 0 where
  pub versions : All (λ h. versions.IsWhole ix h.version) held
  pub below : (i j : ℕ) (d : Held) → i ≤ j → j < length held → IsBelow (slice_index_or held j d).marks (slice_index_or held i d).version
  pub wholes : All IsWhole (lists_in ix low held)

-- The tree of a pin is sound, and lies below the mark that the pin keeps. Its rows stand under their hashes.
pub record IsPinned (ix : Indexes) (pin : Pin) : Type 0 where
  pub sound : IsSound hash_cmp ix.rows.nodes.items pin.root.0
  pub below : pin.root.0 ≤ pin.mark
  pub hashes : reads ix.rows pin.root ≡ by_hash (values (reads ix.rows pin.root))

-- how many nodes the arena of rows has to keep for pins, and at least so many
abbrev pub most_mark : ℕ → List Pin → ℕ
most_mark mark [] = mark
most_mark mark (pin ∷ pinned) = most_mark (max mark pin.mark) pinned

-- the marks of a height, but that the arena of rows keeps what pins need
abbrev pub marks_over : List Pin → List ℕ → List ℕ
marks_over pinned marks =
    most_mark (slice_index marks 0) pinned
    ∷ slice_index marks 1
    ∷ slice_index marks 2
    ∷ slice_index marks 3
    ∷ slice_index marks 4
    ∷ slice_index marks 5
    ∷ slice_index marks 6
    ∷ slice_index marks 7
    ∷ []

-- the lowest height that is held
abbrev pub low_kept : Keeping → ℕ
low_kept branch = low_of branch.profile branch.first branch.top

-- the height of the tip
abbrev pub tip_kept : Keeping → ℕ
tip_kept branch = low_kept branch + length branch.lists - 1

-- the commitments up to the tip are the same
abbrev pub SameMined : Keeping → Keeping → Type 0
SameMined old new = undone (tip_kept old) new.mined ≡ undone (tip_kept old) old.mined

-- What is held of before is held, and reads as before; so do the pins. Only the arenas, the commitments above the tip, and the
-- room may be others.
pub record IsLeft (old new : Keeping) : Type 0 where
  pub profile : new.profile ≡ old.profile
  pub first : new.first ≡ old.first
  pub held : new.held ≡ old.held
  pub lists : new.lists ≡ old.lists
  pub coinbases : new.coinbases ≡ old.coinbases
  pub mined : SameMined old new
  pub top : new.top ≡ old.top
  pub pinned : new.pinned ≡ old.pinned
  pub pins : new.pins ≡ old.pins

-- What is held of before is held, and reads as before; so do the pins. Nodes, roots and marks may be others.
pub record IsAlike (old new : Keeping) : Type 0 where
  pub profile : new.profile ≡ old.profile
  pub first : new.first ≡ old.first
  pub lists : new.lists ≡ old.lists
  pub coinbases : new.coinbases ≡ old.coinbases
  pub mined : SameMined old new
  pub top : new.top ≡ old.top
  pub pins : new.pins ≡ old.pins

-- the height is one of those that are held
pub record IsHeld (branch : Keeping) (height : ℕ) : Type 0 where
  pub low : low_kept branch ≤ height
  pub high : height < low_kept branch + length branch.lists

-- the height below which the tip never goes
abbrev pub floor_kept : Keeping → ℕ
floor_kept branch = max (branch.first - 1) (branch.top - branch.profile.depth)

-- the tip may be taken back: there is a block, and it is not as deep below the top as blocks stay
pub record IsAboveFloor (branch : Keeping) : Type 0 where
  pub above : floor_kept branch < tip_kept branch

-- the list of a version that was prepared in the arenas of a branch, the coinbase, and the commitments
abbrev pub prepared_in : Keeping → Prepared → Next
prepared_in branch prepared = record { kept = kept_in branch.indexes (low_kept branch + length branch.lists) prepared.next; coinbase = prepared.next.coinbase; mined = branch.mined }

-- The branch is as it was when this was prepared: it is the next version, and there is room for it.
pub record IsReady (branch : Keeping) (prepared : Prepared) : Type 0 where
  pub height : low_kept branch + length branch.lists < 2 ^ 32
  pub room : 0 < branch.room
  pub version : versions.IsWhole branch.indexes prepared.next.version
  pub marks : prepared.next.marks ≡ marks_of branch.indexes
  pub whole : IsWhole (prepared_in branch prepared).kept
