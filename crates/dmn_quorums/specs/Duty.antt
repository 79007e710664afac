-- When a block has to have a commitment of a type, and which quorums are active (DIP-0006).
use Rattle.std.specs.Prelude.{ℕ, ◌-◌, ◌%◌, ◌==◌, ◌&&◌, not, nat_le, Bool, List, [], ◌∷◌, filter, find, length, drop, map, Option, None, Some}
use Rattle.std.specs.List.{count_by, flat_map, list_any}
use Rattle.dmn_payloads.specs.declared.mined.MinedAt.{MinedAt}
use Rattle.dmn_payloads.specs.declared.commitment.Commitment.{Commitment}
use Rattle.dmn_rows.specs.declared.profile.QuorumParams.{QuorumParams}

-- the height of the block from which a quorum's members are drawn, by a height at which it may be mined
abbrev pub base_of : QuorumParams → ℕ → ℕ
base_of params height = height - height % params.interval

-- the height is so far behind its base that a commitment may be mined, and the base isn't below the first block
abbrev pub is_in_window : QuorumParams → ℕ → ℕ → Bool
is_in_window params start height =
    nat_le start (base_of params height) && (nat_le params.from (height % params.interval) && nat_le (height % params.interval) params.to)

-- A block has a commitment of a type while none that isn't null was mined for its base.
abbrev pub has_duty : QuorumParams → ℕ → ℕ → Bool → Bool
has_duty params start height done = is_in_window params start height && not done

-- ---- mined commitments

-- those of a block at a height
abbrev pub mined_at : ℕ → List Commitment → List MinedAt
mined_at height = map (λ c. record { height = height; commitment = c })

-- one of this type, mined at or below this height
abbrev pub is_of : QuorumParams → ℕ → MinedAt → Bool
is_of params height m = m.commitment.kind == params.kind && nat_le m.height height

-- one for the base of this height
abbrev pub is_for : QuorumParams → ℕ → MinedAt → Bool
is_for params height m = m.commitment.kind == params.kind && base_of params m.height == base_of params height

-- one that isn't null was mined for the base of this height
abbrev pub is_done : QuorumParams → ℕ → List MinedAt → Bool
is_done params height mined = list_any (is_for params height) mined

-- ---- the types of a profile

-- in its order, which is that of their numbers
abbrev pub types_of : List (Option QuorumParams) → List QuorumParams
types_of [] = []
types_of (None ∷ quorums) = types_of quorums
types_of (Some params ∷ quorums) = params ∷ types_of quorums

-- the numbers of a type, where the profile has that
abbrev pub params_of : List (Option QuorumParams) → ℕ → Option QuorumParams
params_of quorums kind = find (λ params. params.kind == kind) (types_of quorums)

-- ---- mined commitments, by heights

-- those that weren't mined above a height
abbrev pub undone : ℕ → List MinedAt → List MinedAt
undone height = filter (λ m. nat_le m.height height)

-- the last so many of a list
abbrev pub last : {X : Type 0} → ℕ → List X → List X
last n list = drop (length list - n) list

-- The active quorums of a type at a height, each with the height at which it was mined, the oldest first.
abbrev pub active_at : List MinedAt → QuorumParams → ℕ → List MinedAt
active_at mined params height = last params.active (filter (is_of params height) mined)

-- the same, without heights
abbrev pub active_of : List MinedAt → QuorumParams → ℕ → List Commitment
active_of mined params height = map (λ m. m.commitment) (active_at mined params height)

-- those of all types, in the order of the types
abbrev pub all_active : List MinedAt → List (Option QuorumParams) → ℕ → List Commitment
all_active mined quorums height = flat_map (λ params. active_of mined params height) (types_of quorums)

-- the active quorums of all types, in the order of the types, each with the height at which it was mined
abbrev pub all_active_at : List MinedAt → List (Option QuorumParams) → ℕ → List MinedAt
all_active_at mined quorums height = flat_map (λ params. active_at mined params height) (types_of quorums)

-- how many of the type aren't among the last ones
abbrev pub older : List MinedAt → QuorumParams → ℕ → ℕ
older mined params height = count_by (is_of params height) mined - params.active
