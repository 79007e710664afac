-- What is asked of a branch.
use Rattle.std.specs.Prelude.{◌≡◌, ◌⊎◌, ℕ, ◌%◌, ◌==◌, ◌&&◌, not, nat_le, if◌then◌else◌, List, [], ◌∷◌, length, map, find, filter, Option, None, Some, is_some}
use Rattle.std.specs.Option.{option_map}
use Rattle.dmn_block.specs.State.{State}
use Rattle.dmn_bytes.specs.declared.hash.Hash256.{Hash256}
use Rattle.dmn_indexes.specs.Version.{by_hash, values}
use Rattle.dmn_payloads.specs.declared.commitment.Commitment.{Commitment}
use Rattle.dmn_quorums.specs.Duty.{all_active, params_of}
use Rattle.dmn_quorums.specs.Score.{members_of, modifier_of}
use Rattle.dmn_rows.specs.declared.profile.QuorumParams.{QuorumParams}
use Rattle.dmn_rows.specs.declared.row.MnRow.{MnRow}
use Rattle.dmn_rows.specs.Row.{plain}
use Rattle.dmn_rows.specs.Rows.{has_hash, plain_rows}
use Rattle.dmn_sml.specs.Defs.{root_of, simple}
use Rattle.dmn_sml.specs.Entry.{entry_of}
use Rattle.dmn_standing.specs.Payment.{forecast, payee_row}
use denote.Ref.{Bor}
use Rattle.dmn_merkle.specs.declared.branch.Branching.{Branching}
use Rattle.dmn_tx.specs.declared.tx.Tx.{Tx}
use Rattle.dmn_held.specs.declared.coinbase.CoinbasePart.{CoinbasePart}
use Rattle.dmn_branch.specs.declared.tip.Tip.{Tip}
use Rattle.dmn_branch.specs.Pins.{Pinned, page_of}
use Rattle.dmn_branch.specs.Machine.{MachineState, profile, rows_of, state_at, tip, low, top}

abbrev pub told : MachineState → Tip
told m = record { height = (tip m).height; hash = (tip m).hash; low = low m; top = top m }

-- a list that is lent: the rows that are still to come, as they are stored
pub record Lent : Type 0 where
  pub hash : Hash256
  pub root : Hash256
  pub size : ℕ
  pub rows : List MnRow

-- the same list, of which other rows may still come
pub record IsSameList (old new : Lent) : Type 0 where
  pub hash : new.hash ≡ old.hash
  pub root : new.root ≡ old.root
  pub size : new.size ≡ old.size

-- it is the list of this state, with all rows still to come
pub record IsListOf (state : State) (lent : Lent) : Type 0 where
  pub hash : lent.hash ≡ state.hash
  pub root : lent.root ≡ root_of (simple state.rows)
  pub size : lent.size ≡ length state.rows
  pub rows : plain_rows state.height lent.rows ≡ state.rows

-- there is a state, and this is its list
abbrev pub Lends : Lent → Option State → Type 0
Lends lent None = ⊥
Lends lent (Some state) = IsListOf state lent

-- ---- what is told of a state by its rows

-- the masternode that this transaction registered
abbrev pub row_of : Hash256 → State → Option MnRow
row_of hash state = find (has_hash hash) state.rows

-- who is paid next: of the rows that aren't banned the one whose turn is first
abbrev pub payee_of : State → Option MnRow
payee_of state = payee_row state.rows

-- a transaction and a branch that are lent
abbrev pub lent_part : Bor Tx × Bor Branching → CoinbasePart
lent_part lent = record { tx = lent.0.now; branch = lent.1.now }

-- the next payees, by their hashes
abbrev pub payees_of : ℕ → State → List Hash256
payees_of n state = forecast n state.rows

-- The members of the quorum of a type whose base block is that of a state: none where the profile has no such type, or the
-- height is no base of it.
abbrev pub members_by : ℕ → State → Option QuorumParams → Option (List Hash256)
members_by first state None = None
members_by first state (Some params) =
    if nat_le first state.height && state.height % params.interval == 0
    then Some (members_of state.rows params.size (modifier_of params.kind state.hash))
    else None

abbrev pub members_in : MachineState → ℕ → State → Option (List Hash256)
members_in m kind state = members_by m.start.first state (params_of (profile m).quorums kind)

-- the active quorums of all types
abbrev pub quorums_in : MachineState → State → List Commitment
quorums_in m state = all_active state.mined (profile m).quorums state.height

-- there is a state, and this is told of it
abbrev pub IsToldOf : {X : Type 0} → (State → X) → X → Option State → Type 0
IsToldOf tell told None = ⊥
IsToldOf tell told (Some state) = told ≡ tell state

-- a stored row, where one is lent, as it is seen at a height
abbrev pub seen_at : ℕ → Option MnRow → Option MnRow
seen_at height = option_map (plain height)

-- ---- what is told of a pin

-- these pairs are a part of the pinned list: its rows as they are seen at its height, under their hashes
pub record IsPartOf (pin : Pinned) (from most : ℕ) (pairs : List (Hash256 × MnRow)) : Type 0 where
  pub rows : plain_rows pin.height (values pairs) ≡ page_of from most pin
  pub hashes : pairs ≡ by_hash (values pairs)

-- a part is told exactly where there is such a pin
abbrev pub IsPageOf : ℕ → ℕ → Option Pinned → Option (List (Hash256 × MnRow)) → Type 0
IsPageOf from most None None = Unit {0}
IsPageOf from most (Some pin) (Some pairs) = IsPartOf pin from most pairs
IsPageOf from most None (Some pairs) = ⊥
IsPageOf from most (Some pin) None = ⊥

-- ---- what is told of two heights

-- the rows of a height that is held; where none is named there are no rows
abbrev pub rows_at : MachineState → Option ℕ → List MnRow
rows_at m None = []
rows_at m (Some height) = rows_of (state_at m height)

-- the hashes of the base's rows that the target has no row of
abbrev pub hashes_gone : List MnRow → List MnRow → List Hash256
hashes_gone base target = map (λ row. row.hash) (filter (λ row. not (is_some (find (has_hash row.hash) target))) base)

-- the base has a row of this one's hash, with the same entry of the simplified list
abbrev pub IsShown : List MnRow → MnRow → Type 0
IsShown base row = (old : MnRow) × (find (has_hash row.hash) base ≡ Some old) × (entry_of old ≡ entry_of row)

-- these rows are the target's, in its order, and none is left out but where the base has the same entry
abbrev pub LeavesOut : List MnRow → List MnRow → List MnRow → Type 0
LeavesOut base [] put = put ≡ []
LeavesOut base (row ∷ target) put = ((rest : List MnRow) × (put ≡ row ∷ rest) × LeavesOut base target rest) ⊎ (IsShown base row × LeavesOut base target put)
