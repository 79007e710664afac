-- The lists of a snapshot in its form ascend, and lists that ascend, of values in their form, are in form.
use Rattle.std.proofs.Common.{◌≡◌, ◌<◌, ℕ, zero, suc, Bool, true, List, [], ◌∷◌, length, get_or, Option, Some, None, refl, ap, arith}
use Rattle.std.specs.List.{AllByRecursion}
use Rattle.std.specs.declared.cmp.Ordering.{Ordering}
use Rattle.std.specs.declared.cmp.Ordering.TheVariants.{Less}
use Rattle.std.specs.Ordering.{is_lt}
use Rattle.dmn_bytes.specs.declared.hash.Hash256.{Hash256}
use Rattle.dmn_bytes.specs.declared.points.OutPoint.{OutPoint}
use Rattle.dmn_bytes.specs.Format.{Format, SeriesFits, follows, following, last_key}
use Rattle.dmn_bytes.specs.Points.{hash_cmp, out_point, point_cmp}
use Rattle.dmn_held.specs.Defs.{IsHeld}
use Rattle.dmn_held.specs.Height.{height_data}
use Rattle.dmn_held.specs.Lists.{next_row, rows_field}
use Rattle.dmn_held.specs.Snapshot.{snapshot}
use Rattle.dmn_held.specs.declared.data.HeightData.{HeightData}
use Rattle.dmn_held.specs.declared.data.SnapshotData.{SnapshotData}
use Rattle.dmn_rows.specs.declared.row.MnRow.{MnRow}
use Rattle.dmn_rows.specs.declared.start.StartOutput.{StartOutput}
use Rattle.dmn_rows.specs.Keys.{output_key, row_key}
use Rattle.dmn_rows.specs.Listing.{IsAscending, OutputsAscend}
use Rattle.dmn_rows.specs.Rows.{Outputs, has_hash, has_point}
use Rattle.dmn_rows.specs.Sorted.{Ascends, IsAbove, IsKey}
use Rattle.dmn_rows.specs.Start.{behind_point, outputs_field, point_of}
use Rattle.dmn_rows.proofs.Sorted.{above_lower, less_from}
use Rattle.dmn_restore.specs.Lists.{hash_of}

module _ {K V : Type 0} (cmp : K → K → Ordering) (key : V → K) (has : K → V → Bool) (is : IsKey cmp key has) where
  -- behind a last key, or behind none
  abbrev pub Behind : Option K → List V → Type 0
  Behind None vs = Ascends cmp key vs
  Behind (Some last) vs = IsAbove cmp key last vs × Ascends cmp key vs

  pub series_ascends : (f : Option K → Format V) → ((last : Option K) (v : V) → (f last).Fits v → follows cmp last (key v) ≡ true) → (last : Option K) (vs : List V) → SeriesFits f (last_key key) last vs → Behind last vs
  unfolding SeriesFits
  series_ascends f says None [] fits = tt
  series_ascends f says (Some last) [] fits = (tt, tt)
  series_ascends f says None (v ∷ vs) fits = series_ascends f says (Some (key v)) vs fits.1
  series_ascends f says (Some last) (v ∷ vs) fits =
      let rest = series_ascends f says (Some (key v)) vs fits.1 in
      let less : cmp last (key v) ≡ Less = less_from (cmp last (key v)) (says (Some last) v fits.0) in
      ((less, above_lower cmp key has is last (key v) vs less rest.0), rest)

  pub series_fits : (f : Option K → Format V) (P : V → Type 0) → ((last : Option K) (v : V) → follows cmp last (key v) ≡ true → P v → (f last).Fits v) → (last : Option K) (vs : List V) → AllByRecursion P vs → Behind last vs → SeriesFits f (last_key key) last vs
  unfolding SeriesFits
  series_fits f P make last [] all behind = tt
  series_fits f P make None (v ∷ vs) all behind = (make None v refl all.0, series_fits f P make (Some (key v)) vs all.1 behind)
  series_fits f P make (Some last) (v ∷ vs) all behind = (make (Some last) v (ap is_lt behind.0.0) all.0, series_fits f P make (Some (key v)) vs all.1 behind.1)

row_follows : (last : Option Hash256) (row : MnRow) → (next_row last).Fits row → follows hash_cmp last row.hash ≡ true
unfolding next_row
row_follows last row fits = fits.1

output_follows : (last : Option OutPoint) (output : StartOutput) → (following point_cmp point_of out_point behind_point last).Fits output → follows point_cmp last output.point ≡ true
output_follows last output fits = fits.0.1

pub field_ascends : (rows : List MnRow) → rows_field.Fits rows → IsAscending rows
unfolding rows_field
field_ascends rows fits = series_ascends hash_cmp hash_of has_hash row_key next_row row_follows None rows fits.1.1

pub points_field_ascends : (outputs : Outputs) → outputs_field.Fits outputs → OutputsAscend outputs
unfolding outputs_field
points_field_ascends outputs fits = series_ascends point_cmp point_of has_point output_key (following point_cmp point_of out_point behind_point) output_follows None outputs fits.1.1

-- ---- what a snapshot holds in its form

pub held_rows : (held : SnapshotData) → IsHeld held → IsAscending held.rows
unfolding snapshot
held_rows held fits = field_ascends held.rows fits.1.1.1.0

pub held_outputs : (held : SnapshotData) → IsHeld held → OutputsAscend held.outputs
unfolding snapshot
held_outputs held fits = points_field_ascends held.outputs fits.1.1.1.1.0

height_rows : (d : HeightData) → height_data.Fits d → IsAscending d.put
unfolding height_data
height_rows d fits = field_ascends d.put fits.1.1.0

each_height : (heights : List HeightData) → AllByRecursion height_data.Fits heights → (i : ℕ) (d : HeightData) → i < length heights → IsAscending (get_or heights i d).put
each_height [] fits i d lt = absurd (omega arith)
each_height (h ∷ heights) fits zero d lt = height_rows h fits.0
each_height (h ∷ heights) fits (suc i) d lt = each_height heights fits.1 i d (omega arith)

pub held_heights : (held : SnapshotData) → IsHeld held → (i : ℕ) (d : HeightData) → i < length held.heights → IsAscending (get_or held.heights i d).put
unfolding snapshot
held_heights held fits = each_height held.heights fits.1.1.1.1.1.1.1
