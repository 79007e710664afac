-- The list of each height of a snapshot: that of the lowest height is there whole, and each other one is the list of the height
-- before it, from which first what is gone is taken away, and into which then what is new or differs is put.
use Rattle.std.specs.Prelude.{Bool, not, List, [], ◌∷◌, filter}
use Rattle.std.specs.declared.cmp.Ordering.{Ordering}
use Rattle.dmn_bytes.specs.declared.hash.Hash256.{Hash256}
use Rattle.dmn_bytes.specs.declared.points.OutPoint.{OutPoint}
use Rattle.dmn_bytes.specs.Points.{hash_cmp, point_cmp}
use Rattle.dmn_held.specs.declared.data.HeightData.{HeightData}
use Rattle.dmn_held.specs.declared.data.SnapshotData.{SnapshotData}
use Rattle.dmn_rows.specs.declared.row.MnRow.{MnRow}
use Rattle.dmn_rows.specs.Listing.{Listing}
use Rattle.dmn_rows.specs.Rows.{Outputs, has_hash, has_point}
use Rattle.dmn_rows.specs.Sorted.{put_sorted}
use Rattle.dmn_rows.specs.Start.{point_of}

-- ---- lists of any values with keys

-- the list without the values of these keys, which are taken away one by one
abbrev pub drop_all : {K V : Type 0} → (K → V → Bool) → List K → List V → List V
drop_all has [] list = list
drop_all has (k ∷ ks) list = drop_all has ks (filter (λ v. not (has k v)) list)

-- the list with these values, which are put one by one: each in its place, or in that of the one of its key
abbrev pub put_all : {K V : Type 0} → (K → K → Ordering) → (V → K) → List V → List V → List V
put_all cmp key [] list = list
put_all cmp key (v ∷ vs) list = put_all cmp key vs (put_sorted cmp key v list)

-- ---- rows and outputs

abbrev pub hash_of : MnRow → Hash256
hash_of r = r.hash

abbrev pub rows_without : List Hash256 → List MnRow → List MnRow
rows_without = drop_all has_hash

abbrev pub rows_with : List MnRow → List MnRow → List MnRow
rows_with = put_all hash_cmp hash_of

abbrev pub outputs_without : List OutPoint → Outputs → Outputs
outputs_without = drop_all has_point

abbrev pub outputs_with : Outputs → Outputs → Outputs
outputs_with = put_all point_cmp point_of

-- the rows of the next height
abbrev pub next_rows : List Hash256 → List MnRow → List MnRow → List MnRow
next_rows removed put rows = rows_with put (rows_without removed rows)

-- the outputs of the next height
abbrev pub next_outputs : List OutPoint → Outputs → Outputs → Outputs
next_outputs spent added outputs = outputs_with added (outputs_without spent outputs)

-- ---- height by height

abbrev pub next_list : Listing → HeightData → Listing
next_list list d = record { rows = next_rows d.removed d.put list.rows; outputs = next_outputs d.spent d.added list.outputs }

-- the lists of these heights, behind that of the height before them
abbrev pub lists_behind : Listing → List HeightData → List Listing
lists_behind list [] = []
lists_behind list (d ∷ heights) = next_list list d ∷ lists_behind (next_list list d) heights

abbrev pub lowest_list : SnapshotData → Listing
lowest_list held = record { rows = held.rows; outputs = held.outputs }

-- the lists of all heights
abbrev pub lists_of : SnapshotData → List Listing
lists_of held = lowest_list held ∷ lists_behind (lowest_list held) held.heights
