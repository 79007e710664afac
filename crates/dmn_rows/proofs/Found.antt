-- What is read as a start record: it keeps its bounds, and is what its whole text reads as.
use Rattle.std.proofs.Common.{◌≡◌, ℕ, ◌≤◌, Bool, true, false, Option, None, Some, List, [], ◌∷◌, length, Ok, ap, ◌∙◌}
use Rattle.std.specs.Prelude.{IsTrue, ◌&&◌, nat_le}
use Rattle.std.proofs.lemmas.Bool.{leb-true}
use Rattle.dmn_bytes.specs.declared.points.OutPoint.{OutPoint}
use Rattle.dmn_bytes.specs.Format.{whole, following, last_key, SeriesFits}
use Rattle.dmn_bytes.specs.Points.{out_point, point_cmp}
use Rattle.dmn_bytes.specs.Sound.{whole_again}
use Rattle.dmn_rows.specs.declared.start.StartRecord.{StartRecord}
use Rattle.dmn_rows.specs.Defs.{IsStartText, KeepsBounds}
use Rattle.dmn_rows.specs.Rows.{Outputs, has_point}
use Rattle.dmn_rows.specs.Sorted.{IsAbove}
use Rattle.dmn_rows.specs.Listing.{OutputsAscend}
use Rattle.dmn_rows.proofs.Sorted.{less_from, above_lower}
use Rattle.dmn_rows.proofs.Keys.{output_key}
use Rattle.dmn_rows.specs.Start.{point_of, behind_point, start_record, start_record_sound, height_max, most_outputs, profile_field, first_field, count_field, outputs_field}

both : (a b : Bool) → IsTrue (a && b) → IsTrue a × IsTrue b
both true true h = (h, h)
both true false h = absurd cc
both false b h = absurd cc

between : (low high n : ℕ) → IsTrue (nat_le low n && nat_le n high) → (low ≤ n) × (n ≤ high)
between low high n h =
    let b = both (nat_le low n) (nat_le n high) h in
    (leb-true low n b.0, leb-true n high b.1)

pub found_keeps : (text : List ℕ) (start : StartRecord) → IsStartText text start → KeepsBounds start
unfolding start_record profile_field first_field count_field outputs_field
found_keeps text start is = record {
  profile = between 1 2 start.profile is.0.1.0.1;
  first = between 1 height_max start.first is.0.1.1.0.1;
  outputs = leb-true (length start.outputs) most_outputs is.0.1.1.1.1.0.1;
}

-- behind a last outpoint, or behind none
after : Option OutPoint → Outputs → Type 0
after None outputs = OutputsAscend outputs
after (Some last) outputs = IsAbove point_cmp point_of last outputs × OutputsAscend outputs

series_ascends : (last : Option OutPoint) (outputs : Outputs) → SeriesFits (following point_cmp point_of out_point behind_point) (last_key point_of) last outputs → after last outputs
unfolding after SeriesFits
series_ascends None [] fits = tt
series_ascends (Some last) [] fits = (tt, tt)
series_ascends None (o ∷ outputs) fits = series_ascends (Some o.point) outputs fits.1
series_ascends (Some last) (o ∷ outputs) fits =
    let rest = series_ascends (Some o.point) outputs fits.1 in
    let less = less_from (point_cmp last o.point) fits.0.0.1 in
    ((less, above_lower point_cmp point_of has_point output_key last o.point outputs less rest.0), rest)

pub found_ascends : (text : List ℕ) (start : StartRecord) → IsStartText text start → OutputsAscend start.outputs
unfolding start_record outputs_field after
found_ascends text start is = series_ascends None start.outputs is.0.1.1.1.1.1.1

-- It is what the whole text reads as.
pub found_reads : (text : List ℕ) (start : StartRecord) → IsStartText text start → whole start_record text ≡ Ok start
found_reads text start is = ap (whole start_record) is.1 ∙ whole_again start_record start_record_sound start is.0
