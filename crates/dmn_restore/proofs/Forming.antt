-- Lists that ascend, of values in their form and not too many, have a text.
use Rattle.std.proofs.Common.{◌≡◌, ◌<◌, ◌≤◌, ℕ, Bool, true, List, length, Option, None, refl, sym, subst, arith}
use Rattle.std.specs.List.{All}
use Rattle.std.proofs.lemmas.Bool.{le-leb}
use Rattle.std.proofs.lemmas.List.Elements.{recursion_from_All}
use Rattle.dmn_bytes.specs.contracts.points.PayPartialEq.TheImpl as pays
use Rattle.dmn_bytes.specs.declared.hash.Hash256.{Hash256}
use Rattle.dmn_bytes.specs.declared.points.OutPoint.{OutPoint}
use Rattle.dmn_bytes.specs.Format.{follows, following, hash, only}
use Rattle.dmn_bytes.specs.Points.{hash_cmp, out_point, pay, point_cmp}
use Rattle.dmn_held.specs.Lists.{count_to, hashes_field, next_row, points_field, rows_field}
use Rattle.dmn_held.specs.Row.{stored_row}
use Rattle.dmn_indexes.specs.declared.indexes.Indexes.{Indexes}
use Rattle.dmn_indexes.specs.declared.version.Version.{Version}
use Rattle.dmn_indexes.specs.Version.{IsWhole, outputs_in, rows_in}
use Rattle.dmn_rows.specs.declared.limits.TheConstants.{MOST_MASTERNODES, MOST_OUTPUTS}
use Rattle.dmn_rows.specs.declared.row.MnRow.{MnRow}
use Rattle.dmn_rows.specs.declared.start.StartOutput.{StartOutput}
use Rattle.dmn_rows.specs.Keys.{hash_cmp_total, hash_exact, output_key, row_key, same_hash-from, same_hash-is, same_point-from, same_point-is}
use Rattle.dmn_rows.specs.Listing.{IsAscending, OutputsAscend}
use Rattle.dmn_rows.specs.Rows.{Outputs, has_hash, has_point, same_hash, same_point}
use Rattle.dmn_rows.specs.Sorted.{Ascends, IsKey}
use Rattle.dmn_rows.specs.Start.{behind_point, count_field, outputs_field, point_of}
use Rattle.dmn_restore.specs.declared.differing.Difference.{Difference}
use Rattle.dmn_restore.specs.Formed.{HasFormedPay, IsFormed, IsInForm}
use Rattle.dmn_restore.specs.Lists.{hash_of}
use Rattle.dmn_restore.specs.Restored.{listing_in}
use Rattle.dmn_restore.proofs.Keyed.{fresh_ascends, fresh_few, gone_ascends, gone_few}
use Rattle.dmn_restore.proofs.Ordered.{series_fits}
use Rattle.dmn_restore.proofs.Rising.{version_outputs, version_rows}
use Rattle.dmn_restore.proofs.Walked.{alike, outputs_fresh, points_gone, rows_fresh, rows_gone, same_row}

hash_key : IsKey hash_cmp (λ (h : Hash256). h) (λ (k : Hash256) (h : Hash256). same_hash h k)
hash_key = record { total = hash_cmp_total; exact = hash_exact; decides = λ k h same. same_hash-is h k same; decided = λ k h is. same_hash-from h k is }

point_key : IsKey point_cmp (λ (p : OutPoint). p) (λ (k : OutPoint) (p : OutPoint). same_point p k)
point_key = record { total = output_key.total; exact = output_key.exact; decides = λ k p same. same_point-is p k same; decided = λ k p is. same_point-from p k is }

count_fits : (most n : ℕ) → most < 4294967296 → n ≤ most → (count_to most).Fits n
unfolding count_to
count_fits most n low le = (omega (arith, low, le), le-leb n most le)

row_fits : (last : Option Hash256) (row : MnRow) → follows hash_cmp last row.hash ≡ true → stored_row.Fits row → (next_row last).Fits row
unfolding next_row
row_fits last row behind fits = (fits, behind)

pub rows_form : (rows : List MnRow) → length rows ≤ MOST_MASTERNODES → IsAscending rows → All stored_row.Fits rows → rows_field.Fits rows
unfolding rows_field
rows_form rows few ascending all =
    (count_fits MOST_MASTERNODES (length rows) (omega arith) few, (refl, series_fits hash_cmp hash_of has_hash row_key next_row stored_row.Fits row_fits None rows (recursion_from_All stored_row.Fits rows all) ascending))

hash_fits : (last : Option Hash256) (h : Hash256) → follows hash_cmp last h ≡ true → hash.Fits h → (following hash_cmp (λ (h : Hash256). h) hash (λ (h : Hash256). only h) last).Fits h
hash_fits last h behind fits = ((fits, behind), refl)

pub hashes_form : (hashes : List Hash256) → length hashes ≤ MOST_MASTERNODES → Ascends hash_cmp (λ (h : Hash256). h) hashes → All hash.Fits hashes → hashes_field.Fits hashes
unfolding hashes_field
hashes_form hashes few ascending all =
    (count_fits MOST_MASTERNODES (length hashes) (omega arith) few, (refl, series_fits hash_cmp (λ (h : Hash256). h) (λ (k : Hash256) (h : Hash256). same_hash h k) hash_key (following hash_cmp (λ (h : Hash256). h) hash (λ (h : Hash256). only h)) hash.Fits hash_fits None hashes (recursion_from_All hash.Fits hashes all) ascending))

point_fits : (last : Option OutPoint) (p : OutPoint) → follows point_cmp last p ≡ true → out_point.Fits p → (following point_cmp (λ (p : OutPoint). p) out_point (λ (p : OutPoint). only p) last).Fits p
point_fits last p behind fits = ((fits, behind), refl)

pub points_form : (points : List OutPoint) → length points ≤ MOST_OUTPUTS → Ascends point_cmp (λ (p : OutPoint). p) points → All out_point.Fits points → points_field.Fits points
unfolding points_field
points_form points few ascending all =
    (count_fits MOST_OUTPUTS (length points) (omega arith) few, (refl, series_fits point_cmp (λ (p : OutPoint). p) (λ (k : OutPoint) (p : OutPoint). same_point p k) point_key (following point_cmp (λ (p : OutPoint). p) out_point (λ (p : OutPoint). only p)) out_point.Fits point_fits None points (recursion_from_All out_point.Fits points all) ascending))

-- an output that has a text
pub record HasText (output : StartOutput) : Type 0 where
  pub point : out_point.Fits output.point
  pub pay : pay.Fits output.pay

output_fits : (last : Option OutPoint) (o : StartOutput) → follows point_cmp last o.point ≡ true → HasText o → (following point_cmp point_of out_point behind_point last).Fits o
unfolding behind_point
output_fits last o behind fits = ((fits.point, behind), (refl, fits.pay))

outputs_count : (n : ℕ) → n ≤ MOST_OUTPUTS → count_field.Fits n
unfolding count_field
outputs_count n le = (omega (arith, le), le-leb n MOST_OUTPUTS le)

pub outputs_form : (outputs : Outputs) → length outputs ≤ MOST_OUTPUTS → OutputsAscend outputs → All (λ (o : StartOutput). out_point.Fits o.point) outputs → All HasFormedPay outputs → outputs_field.Fits outputs
unfolding outputs_field
outputs_form outputs few ascending points pays =
    (outputs_count (length outputs) few, (refl, series_fits point_cmp point_of has_point output_key (following point_cmp point_of out_point behind_point) HasText output_fits None outputs (recursion_from_All HasText outputs (λ k d lt. record { point = points k d lt; pay = pays k d lt })) ascending))

-- ---- what two walks tell

module _ (ix : Indexes) (old new : Version) (before : IsWhole ix old) (after : IsWhole ix new) (formed : IsFormed (listing_in ix old)) (then : IsFormed (listing_in ix new)) where
  abbrev put : List MnRow
  put = rows_fresh (rows_in ix old) (rows_in ix new)

  abbrev removed : List Hash256
  removed = rows_gone (rows_in ix old) (rows_in ix new)

  abbrev added : Outputs
  added = outputs_fresh (outputs_in ix old) (outputs_in ix new)

  abbrev spent : List OutPoint
  spent = points_gone (outputs_in ix old) (outputs_in ix new)

  abbrev row_alike : MnRow → MnRow → Bool
  row_alike = alike hash_cmp hash_of has_hash row_key (λ (r : MnRow). r) same_row

  abbrev output_alike : StartOutput → StartOutput → Bool
  output_alike = alike point_cmp point_of has_point output_key (λ (o : StartOutput). o.pay) (pays.ghosts).eq

  pub in_form : (d : Difference) → d.put ≡ put → d.removed ≡ removed → d.added ≡ added → d.spent ≡ spent → All stored_row.Fits d.put → All hash.Fits d.removed → All (λ (o : StartOutput). out_point.Fits o.point) d.added → All out_point.Fits d.spent → All HasFormedPay d.added → IsInForm d
  in_form d put_is removed_is added_is spent_is rows hashes outputs points pays =
      let put_few : length put ≤ length (rows_in ix new) = fresh_few hash_cmp hash_of has_hash row_key row_alike (rows_in ix old) (rows_in ix new) in
      let removed_few : length removed ≤ length (rows_in ix old) = gone_few hash_cmp hash_of has_hash row_key (rows_in ix old) (rows_in ix new) in
      let added_few : length added ≤ length (outputs_in ix new) = fresh_few point_cmp point_of has_point output_key output_alike (outputs_in ix old) (outputs_in ix new) in
      let spent_few : length spent ≤ length (outputs_in ix old) = gone_few point_cmp point_of has_point output_key (outputs_in ix old) (outputs_in ix new) in
      record {
        put = rows_form d.put
            (subst (λ (l : List MnRow). length l ≤ MOST_MASTERNODES) (sym put_is) (omega (arith, put_few, then.masternodes)))
            (subst IsAscending (sym put_is) (fresh_ascends hash_cmp hash_of has_hash row_key row_alike (rows_in ix old) (rows_in ix new) (version_rows ix new after))) rows;
        removed = hashes_form d.removed
            (subst (λ (l : List Hash256). length l ≤ MOST_MASTERNODES) (sym removed_is) (omega (arith, removed_few, formed.masternodes)))
            (subst (Ascends hash_cmp (λ (h : Hash256). h)) (sym removed_is) (gone_ascends hash_cmp hash_of has_hash row_key (rows_in ix old) (rows_in ix new) (version_rows ix old before))) hashes;
        added = outputs_form d.added
            (subst (λ (l : Outputs). length l ≤ MOST_OUTPUTS) (sym added_is) (omega (arith, added_few, then.collaterals)))
            (subst OutputsAscend (sym added_is) (fresh_ascends point_cmp point_of has_point output_key output_alike (outputs_in ix old) (outputs_in ix new) (version_outputs ix new after))) outputs pays;
        spent = points_form d.spent
            (subst (λ (l : List OutPoint). length l ≤ MOST_OUTPUTS) (sym spent_is) (omega (arith, spent_few, formed.collaterals)))
            (subst (Ascends point_cmp (λ (p : OutPoint). p)) (sym spent_is) (gone_ascends point_cmp point_of has_point output_key (outputs_in ix old) (outputs_in ix new) (version_outputs ix old before))) points;
      }
