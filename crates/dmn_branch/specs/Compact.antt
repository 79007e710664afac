-- Arenas that are compacted: a copy of the nodes that some versions need takes the place of an arena, and these versions read as
-- before by their new roots.
use Rattle.std.specs.Prelude.{◌≡◌, ℕ, ◌+◌, ◌*◌, ◌<◌, ◌≤◌, ◌&&◌, Bool, nat_lt, List, [], ◌∷◌, ◌++◌, length, map, slice_index_or, Option, None, Some}
use Rattle.std.specs.List.{slice_index}
use Rattle.std.specs.declared.cmp.Ordering.{Ordering}
use Rattle.dmn_bytes.specs.Points.{hash_cmp, point_cmp}
use Rattle.dmn_indexes.specs.declared.indexes.Indexes.{Indexes}
use Rattle.dmn_indexes.specs.declared.version.Version.{Version}
use Rattle.dmn_indexes.specs.Keys.{owner_cmp, operator_cmp, service_cmp, pay_cmp, unconfirmed_cmp}
use Rattle.dmn_versions.specs.declared.arena.Arena.{Arena}
use Rattle.dmn_versions.specs.declared.node.Root.{Root}
use Rattle.dmn_versions.specs.Trees.{IsSound}
use Rattle.dmn_walk.specs.Copy.{Moves}
use Rattle.dmn_indexes.specs.Version.{empty_version}
use Rattle.dmn_branch.specs.declared.compaction.Compaction.{Compaction}
use Rattle.dmn_branch.specs.declared.compaction.Renewal.{Renewal}
use Rattle.dmn_branch.specs.declared.compaction.Tree.{Tree}
use Rattle.dmn_branch.specs.declared.compaction.Tree.TheVariants.{Rows, Owner, Operator, Service, Collateral, Payment, Unconfirmed, Outputs}
use Rattle.dmn_branch.specs.declared.held.Held.{Held}
use Rattle.dmn_branch.specs.declared.pins.Pin.{Pin}

-- an arena is compacted that has more than 4,096 nodes, and more than four times as many as after its last compaction
abbrev pub is_overgrown : ℕ → ℕ → Bool
is_overgrown nodes after = nat_lt 4096 nodes && nat_lt (4 * after) nodes

-- the root of one of a version's trees
abbrev pub root_of : Tree → Version → Root
root_of Rows v = v.rows
root_of Owner v = v.owner
root_of Operator v = v.operator
root_of Service v = v.service
root_of Collateral v = v.collateral
root_of Payment v = v.payment
root_of Unconfirmed v = v.unconfirmed
root_of Outputs v = v.outputs

-- ---- one arena

-- the copy, where there is one, takes the place of an arena
abbrev pub arena_after : {K V : Type 0} → Arena K V → Option (Arena K V) → Arena K V
arena_after arena None = arena
arena_after arena (Some copy) = copy

-- where there is one, each mark is how many nodes it has
abbrev pub mark_after : {K V : Type 0} → ℕ → Option (Arena K V) → ℕ
mark_after mark None = mark
mark_after mark (Some copy) = length copy.nodes.items

-- where there is none, roots stay
abbrev pub Stay : {K V : Type 0} → List Root → List Root → Option (Arena K V) → Type 0
Stay old new None = new ≡ old
Stay old new (Some copy) = Unit {0}

-- each root reads as before, in no more nodes
pub record Renews {K V : Type 0} (cmp : K → K → Ordering) (arena : Arena K V) (roots : List Root) (renewal : Renewal K V) : Type 0 where
  pub few : length (arena_after arena renewal.arena).nodes.items ≤ length arena.nodes.items
  pub moves : Moves cmp arena.nodes.items (arena_after arena renewal.arena).nodes.items roots renewal.roots.items
  pub stay : Stay roots renewal.roots.items renewal.arena

-- ---- all eight

-- the trees of a version are sound
pub record HasSoundTrees (ix : Indexes) (v : Version) : Type 0 where
  pub rows : IsSound hash_cmp ix.rows.nodes.items v.rows.0
  pub owner : IsSound owner_cmp ix.owner.nodes.items v.owner.0
  pub operator : IsSound operator_cmp ix.operator.nodes.items v.operator.0
  pub service : IsSound service_cmp ix.service.nodes.items v.service.0
  pub collateral : IsSound point_cmp ix.collateral.nodes.items v.collateral.0
  pub payment : IsSound pay_cmp ix.payment.nodes.items v.payment.0
  pub unconfirmed : IsSound unconfirmed_cmp ix.unconfirmed.nodes.items v.unconfirmed.0
  pub outputs : IsSound point_cmp ix.outputs.nodes.items v.outputs.0

-- the roots of each tree of these versions read as before
pub record Compacts (ix : Indexes) (versions : List Version) (made : Compaction) : Type 0 where
  pub rows : Renews hash_cmp ix.rows (map (root_of Rows) versions) made.rows
  pub owner : Renews owner_cmp ix.owner (map (root_of Owner) versions) made.owner
  pub operator : Renews operator_cmp ix.operator (map (root_of Operator) versions) made.operator
  pub service : Renews service_cmp ix.service (map (root_of Service) versions) made.service
  pub collateral : Renews point_cmp ix.collateral (map (root_of Collateral) versions) made.collateral
  pub payment : Renews pay_cmp ix.payment (map (root_of Payment) versions) made.payment
  pub unconfirmed : Renews unconfirmed_cmp ix.unconfirmed (map (root_of Unconfirmed) versions) made.unconfirmed
  pub outputs : Renews point_cmp ix.outputs (map (root_of Outputs) versions) made.outputs

-- there is a version at the place
pub record HasVersion (made : Compaction) (place : ℕ) : Type 0 where
  pub rows : place < length made.rows.roots.items
  pub owner : place < length made.owner.roots.items
  pub operator : place < length made.operator.roots.items
  pub service : place < length made.service.roots.items
  pub collateral : place < length made.collateral.roots.items
  pub payment : place < length made.payment.roots.items
  pub unconfirmed : place < length made.unconfirmed.roots.items
  pub outputs : place < length made.outputs.roots.items

abbrev pub root_at : {K V : Type 0} → ℕ → Renewal K V → Root
root_at place renewal = slice_index_or renewal.roots.items place (record { 0 = 0 })

-- the version at a place, by its new roots
abbrev pub version_at : Compaction → ℕ → Version
version_at made place = record {
  rows = root_at place made.rows;
  owner = root_at place made.owner;
  operator = root_at place made.operator;
  service = root_at place made.service;
  collateral = root_at place made.collateral;
  payment = root_at place made.payment;
  unconfirmed = root_at place made.unconfirmed;
  outputs = root_at place made.outputs;
}

-- the arenas, with the copies in their places
abbrev pub indexes_after : Indexes → Compaction → Indexes
indexes_after ix made = record {
  rows = arena_after ix.rows made.rows.arena;
  owner = arena_after ix.owner made.owner.arena;
  operator = arena_after ix.operator made.operator.arena;
  service = arena_after ix.service made.service.arena;
  collateral = arena_after ix.collateral made.collateral.arena;
  payment = arena_after ix.payment made.payment.arena;
  unconfirmed = arena_after ix.unconfirmed made.unconfirmed.arena;
  outputs = arena_after ix.outputs made.outputs.arena;
}

-- the marks of a height
abbrev pub marks_after : List ℕ → Compaction → List ℕ
marks_after marks made =
    mark_after (slice_index marks 0) made.rows.arena
    ∷ mark_after (slice_index marks 1) made.owner.arena
    ∷ mark_after (slice_index marks 2) made.operator.arena
    ∷ mark_after (slice_index marks 3) made.service.arena
    ∷ mark_after (slice_index marks 4) made.collateral.arena
    ∷ mark_after (slice_index marks 5) made.payment.arena
    ∷ mark_after (slice_index marks 6) made.unconfirmed.arena
    ∷ mark_after (slice_index marks 7) made.outputs.arena
    ∷ []

-- ---- what is held, and pins

-- the version of each height, and behind them that of each pin, which has a tree of rows alone
abbrev pub pin_version : Pin → Version
pin_version pin = record empty_version { rows = pin.root }

abbrev pub versions_of : List Held → List Pin → List Version
versions_of held pinned = map (λ h. h.version) held ++ map pin_version pinned

-- what is held of a height, and a pin, by the new roots at a place
abbrev pub height_after : Compaction → ℕ → Held → Held
height_after made place held = record held { version = version_at made place; marks = marks_after held.marks made }

abbrev pub pin_after : Compaction → ℕ → Pin → Pin
pin_after made place pin = record pin { root = root_at place made.rows; mark = mark_after pin.mark made.rows.arena }

-- each item is made of the old one at its place
pub record AreMade {X : Type 0} (make : ℕ → X → X) (old new : List X) : Type 0 where
  pub long : length new ≡ length old
  pub each : (place : ℕ) (d : X) → place < length old → slice_index_or new place d ≡ make place (slice_index_or old place d)

-- each arena has at most so many nodes more
pub record MoreByAtMost (by : ℕ) (old new : Indexes) : Type 0 where
  pub rows : length new.rows.nodes.items ≤ length old.rows.nodes.items + by
  pub owner : length new.owner.nodes.items ≤ length old.owner.nodes.items + by
  pub operator : length new.operator.nodes.items ≤ length old.operator.nodes.items + by
  pub service : length new.service.nodes.items ≤ length old.service.nodes.items + by
  pub collateral : length new.collateral.nodes.items ≤ length old.collateral.nodes.items + by
  pub payment : length new.payment.nodes.items ≤ length old.payment.nodes.items + by
  pub unconfirmed : length new.unconfirmed.nodes.items ≤ length old.unconfirmed.nodes.items + by
  pub outputs : length new.outputs.nodes.items ≤ length old.outputs.nodes.items + by
