-- What a version reads as, and when it is whole.
use Rattle.std.specs.Prelude.{◌≡◌, ℕ, ◌+◌, ◌*◌, ◌≤◌, List, map, length, Option}
use Rattle.std.specs.declared.cmp.Ordering.{Ordering}
use Rattle.dmn_bytes.specs.Points.{hash_cmp, point_cmp}
use Rattle.dmn_bytes.specs.declared.hash.Hash256.{Hash256}
use Rattle.dmn_bytes.specs.declared.points.OutPoint.{OutPoint}
use Rattle.dmn_bytes.specs.declared.points.Pay.{Pay}
use Rattle.dmn_rows.specs.declared.row.MnRow.{MnRow}
use Rattle.dmn_rows.specs.Distinct.{HasDistinctKeys}
use Rattle.dmn_rows.specs.Rows.{Outputs}
use Rattle.dmn_versions.specs.declared.node.Node.{Node}
use Rattle.dmn_versions.specs.declared.node.Root.{Root}
use Rattle.dmn_versions.specs.Trees.{tree_at, pairs, IsSound, Grows, reads, height_in, spare}
use Rattle.dmn_indexes.specs.declared.indexes.Indexes.{Indexes}
use Rattle.dmn_indexes.specs.declared.version.Version.{Version}
use Rattle.dmn_indexes.specs.Index.{index_of}
use Rattle.dmn_indexes.specs.Keys.{owner_cmp, operator_cmp, service_cmp, pay_cmp, unconfirmed_cmp, owner_of, operator_of, service_of, collateral_of, pay_of, unconfirmed_of}

-- no rows and no outputs
abbrev pub empty_version : Version
empty_version = let none : Root = record { 0 = 0 } in record { rows = none; owner = none; operator = none; service = none; collateral = none; payment = none; unconfirmed = none; outputs = none }

-- ---- what a version reads as

-- the rows of pairs, and the pairs of rows
abbrev pub values : List (Hash256 × MnRow) → List MnRow
values = map (λ p. p.1)

abbrev pub by_hash : List MnRow → List (Hash256 × MnRow)
by_hash = map (λ r. (r.hash, r))

-- the outputs of pairs
abbrev pub outputs_of : List (OutPoint × Pay) → Outputs
outputs_of = map (λ p. record { point = p.0; pay = p.1 })

-- the rows of a version, by ascending hashes
abbrev pub rows_in : Indexes → Version → List MnRow
rows_in ix v = values (reads ix.rows v.rows)

-- the outputs of a version, by ascending outpoints
abbrev pub outputs_in : Indexes → Version → Outputs
outputs_in ix v = outputs_of (reads ix.outputs v.outputs)

-- ---- a whole version

-- the tree is sound, and reads as the index of the rows
pub record IsIndex {K : Type 0} (cmp : K → K → Ordering) (key : MnRow → Option K) (nodes : List (Node K Hash256)) (root : Root) (rows : List MnRow) : Type 0 where
  pub sound : IsSound cmp nodes root.0
  pub reads : pairs (tree_at nodes root.0) ≡ index_of cmp key rows

-- The trees of a version are those of these rows: all are sound, each row stands under its hash, no two rows have the same
-- key, and the six indexes are those of the rows.
pub record Holds (ix : Indexes) (v : Version) (rows : List MnRow) : Type 0 where
  pub sound : IsSound hash_cmp ix.rows.nodes.items v.rows.0
  pub reads : reads ix.rows v.rows ≡ by_hash rows
  pub distinct : HasDistinctKeys rows
  pub owner : IsIndex owner_cmp owner_of ix.owner.nodes.items v.owner rows
  pub operator : IsIndex operator_cmp operator_of ix.operator.nodes.items v.operator rows
  pub service : IsIndex service_cmp service_of ix.service.nodes.items v.service rows
  pub collateral : IsIndex point_cmp collateral_of ix.collateral.nodes.items v.collateral rows
  pub payment : IsIndex pay_cmp pay_of ix.payment.nodes.items v.payment rows
  pub unconfirmed : IsIndex unconfirmed_cmp unconfirmed_of ix.unconfirmed.nodes.items v.unconfirmed rows
  pub outputs : IsSound point_cmp ix.outputs.nodes.items v.outputs.0

-- its trees are those of its rows
abbrev pub IsWhole : Indexes → Version → Type 0
IsWhole ix v = Holds ix v (rows_in ix v)

-- a version of before is whole, and reads as before
pub record Stays (old new : Indexes) (v : Version) : Type 0 where
  pub whole : IsWhole new v
  pub rows : rows_in new v ≡ rows_in old v
  pub outputs : outputs_in new v ≡ outputs_in old v

-- every version of before is whole, and reads as before
abbrev pub Keeps : Indexes → Indexes → Type 0
Keeps old new = (v : Version) → IsWhole old v → Stays old new v

-- ---- room and growth

-- as many nodes as an event may add to a tree of this height: it takes out once and puts in once
abbrev pub event_nodes : ℕ → ℕ
event_nodes height = 2 * (4 * (height + 1))

-- there is room for one event on the version
pub record HasRoom (ix : Indexes) (v : Version) : Type 0 where
  pub rows : event_nodes (height_in ix.rows v.rows) ≤ spare ix.rows
  pub owner : event_nodes (height_in ix.owner v.owner) ≤ spare ix.owner
  pub operator : event_nodes (height_in ix.operator v.operator) ≤ spare ix.operator
  pub service : event_nodes (height_in ix.service v.service) ≤ spare ix.service
  pub collateral : event_nodes (height_in ix.collateral v.collateral) ≤ spare ix.collateral
  pub payment : event_nodes (height_in ix.payment v.payment) ≤ spare ix.payment
  pub unconfirmed : event_nodes (height_in ix.unconfirmed v.unconfirmed) ≤ spare ix.unconfirmed
  pub outputs : event_nodes (height_in ix.outputs v.outputs) ≤ spare ix.outputs

-- each arena has the old nodes, and at most as many new ones as one event on the version may add
pub record Grown (old : Indexes) (v : Version) (new : Indexes) : Type 0 where
  pub rows : Grows (event_nodes (height_in old.rows v.rows)) old.rows.nodes.items new.rows.nodes.items
  pub owner : Grows (event_nodes (height_in old.owner v.owner)) old.owner.nodes.items new.owner.nodes.items
  pub operator : Grows (event_nodes (height_in old.operator v.operator)) old.operator.nodes.items new.operator.nodes.items
  pub service : Grows (event_nodes (height_in old.service v.service)) old.service.nodes.items new.service.nodes.items
  pub collateral : Grows (event_nodes (height_in old.collateral v.collateral)) old.collateral.nodes.items new.collateral.nodes.items
  pub payment : Grows (event_nodes (height_in old.payment v.payment)) old.payment.nodes.items new.payment.nodes.items
  pub unconfirmed : Grows (event_nodes (height_in old.unconfirmed v.unconfirmed)) old.unconfirmed.nodes.items new.unconfirmed.nodes.items
  pub outputs : Grows (event_nodes (height_in old.outputs v.outputs)) old.outputs.nodes.items new.outputs.nodes.items

-- each arena has the old nodes, and at most this many new ones
pub record GrownBy (by : ℕ) (old new : Indexes) : Type 0 where
  pub rows : Grows by old.rows.nodes.items new.rows.nodes.items
  pub owner : Grows by old.owner.nodes.items new.owner.nodes.items
  pub operator : Grows by old.operator.nodes.items new.operator.nodes.items
  pub service : Grows by old.service.nodes.items new.service.nodes.items
  pub collateral : Grows by old.collateral.nodes.items new.collateral.nodes.items
  pub payment : Grows by old.payment.nodes.items new.payment.nodes.items
  pub unconfirmed : Grows by old.unconfirmed.nodes.items new.unconfirmed.nodes.items
  pub outputs : Grows by old.outputs.nodes.items new.outputs.nodes.items

-- as many pairs as a tree of height 28 surely holds
abbrev pub few : ℕ
few = 1056768

-- no tree of the version has more
pub record HasFewPairs (ix : Indexes) (v : Version) : Type 0 where
  pub rows : length (reads ix.rows v.rows) ≤ few
  pub owner : length (reads ix.owner v.owner) ≤ few
  pub operator : length (reads ix.operator v.operator) ≤ few
  pub service : length (reads ix.service v.service) ≤ few
  pub collateral : length (reads ix.collateral v.collateral) ≤ few
  pub payment : length (reads ix.payment v.payment) ≤ few
  pub unconfirmed : length (reads ix.unconfirmed v.unconfirmed) ≤ few
  pub outputs : length (reads ix.outputs v.outputs) ≤ few
