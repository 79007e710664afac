-- The list of the next height, made by taking away what is gone and what is replaced, and putting what is new or differs.
use Rattle.std.proofs.Common.{◌≡◌, ◌≤◌, ℕ, List, length, map, sym, ap, ◌∙◌, subst}
use Rattle.std.specs.Prelude.{Result, Ok, Err, OnOk}
use Rattle.dmn_bytes.specs.Points.{hash_cmp, point_cmp}
use Rattle.dmn_bytes.specs.declared.hash.Hash256.{Hash256}
use Rattle.dmn_bytes.specs.declared.points.OutPoint.{OutPoint}
use Rattle.dmn_held.specs.declared.data.HeightData.{HeightData}
use Rattle.dmn_indexes.specs.Working.{Worked, listing}
use Rattle.dmn_rows.specs.declared.limits.TheConstants.{MOST_MASTERNODES, MOST_OUTPUTS}
use Rattle.dmn_rows.specs.declared.row.MnRow.{MnRow}
use Rattle.dmn_rows.specs.Distinct.{HasDistinctKeys}
use Rattle.dmn_rows.specs.Keys.{output_key, row_key}
use Rattle.dmn_rows.specs.Listing.{IsAscending, Listing, OutputsAscend}
use Rattle.dmn_rows.specs.Rows.{Outputs, has_hash, has_point}
use Rattle.dmn_rows.specs.Start.{point_of}
use Rattle.dmn_restore.specs.Lists.{hash_of, next_list, next_rows, outputs_with, outputs_without, rows_with, rows_without}
use Rattle.dmn_restore.specs.Proper.{HasPenaltiesTo, IsProper}
use Rattle.dmn_restore.specs.Puts.{MayPutAll}
use Rattle.dmn_restore.proofs.Keyed.{absent_dropped, drops_ascend, put_over}
use Rattle.dmn_restore.proofs.Free.{RowsAbsent, all_dropped, keys_dropped, may_put_all}

-- what is left of rows where these are gone and those are replaced
pub record IsLeft (rows : List MnRow) (removed : List Hash256) (put bare : List MnRow) : Type 0 where
  pub is : bare ≡ rows_without (map hash_of put) (rows_without removed rows)

less_ascends : (hashes : List Hash256) (rows : List MnRow) → IsAscending rows → IsAscending (rows_without hashes rows)
less_ascends = drops_ascend hash_cmp hash_of has_hash row_key

pub left_ascends : {rows : List MnRow} {removed : List Hash256} {put bare : List MnRow} → IsLeft rows removed put bare → IsAscending rows → IsAscending bare
left_ascends {rows} {removed} {put} left ascending = subst IsAscending (sym left.is) (less_ascends (map hash_of put) (rows_without removed rows) (less_ascends removed rows ascending))

pub left_keys : {rows : List MnRow} {removed : List Hash256} {put bare : List MnRow} → IsLeft rows removed put bare → HasDistinctKeys rows → HasDistinctKeys bare
left_keys {rows} {removed} {put} left keys = subst HasDistinctKeys (sym left.is) (keys_dropped (map hash_of put) (rows_without removed rows) (keys_dropped removed rows keys))

pub left_penalties : (height : ℕ) {rows : List MnRow} {removed : List Hash256} {put bare : List MnRow} → IsLeft rows removed put bare → HasPenaltiesTo height rows → HasPenaltiesTo height bare
left_penalties height {rows} {removed} {put} left all =
    subst (HasPenaltiesTo height) (sym left.is)
    (all_dropped hash_cmp hash_of has_hash row_key (λ (row : MnRow). row.penalty_at ≤ height) (map hash_of put) (rows_without removed rows)
    (all_dropped hash_cmp hash_of has_hash row_key (λ (row : MnRow). row.penalty_at ≤ height) removed rows all))

pub points_ascend : (spent : List OutPoint) (outputs bare : Outputs) → bare ≡ outputs_without spent outputs → OutputsAscend outputs → OutputsAscend bare
points_ascend spent outputs bare is ascending = subst OutputsAscend (sym is) (drops_ascend point_cmp point_of has_point output_key spent outputs ascending)

-- the rows that are put over what is left are those of the next height
pub next_are : {rows : List MnRow} {removed : List Hash256} {put bare : List MnRow} → IsLeft rows removed put bare → IsAscending rows → rows_with put bare ≡ next_rows removed put rows
next_are {rows} {removed} {put} left ascending =
    ap (rows_with put) left.is ∙ put_over hash_cmp hash_of has_hash row_key put (rows_without removed rows) (less_ascends removed rows ascending)

pub absent_left : {rows : List MnRow} {removed : List Hash256} {put bare : List MnRow} → IsLeft rows removed put bare → RowsAbsent bare put
absent_left {rows} {removed} {put} left = subst (λ (l : List MnRow). RowsAbsent l put) (sym left.is) (absent_dropped hash_cmp hash_of has_hash row_key put (rows_without removed rows))

pub list_is : {V E : Type 0} (result : Result V E) (list : Listing) (d : HeightData) (bare next : Worked) → IsLeft list.rows d.removed d.put bare.rows → bare.outputs ≡ outputs_without d.spent list.outputs → IsAscending list.rows
    → OnOk result (next.rows ≡ rows_with d.put bare.rows) → OnOk result (next.outputs ≡ outputs_with d.added bare.outputs) → OnOk result (listing next ≡ next_list list d)
list_is (Ok v) list d bare next left points ascending rows outputs =
    ap (λ (l : List MnRow). record { rows = l; outputs = next.outputs }) (rows ∙ next_are left ascending)
    ∙ ap (λ (l : Outputs). record { rows = next_rows d.removed d.put list.rows; outputs = l }) (outputs ∙ ap (outputs_with d.added) points)
list_is (Err e) list d bare next left points ascending rows outputs = tt

-- what is put over what is left may be put, where the next list is proper
pub record MayGoOn (height : ℕ) (put bare : List MnRow) (added points : Outputs) : Type 0 where
  pub may : MayPutAll height put bare
  pub masternodes : length (rows_with put bare) ≤ MOST_MASTERNODES
  pub collaterals : length (outputs_with added points) ≤ MOST_OUTPUTS

pub may_go_on : (height : ℕ) (list : Listing) (d : HeightData) (bare : List MnRow) (points : Outputs) → IsLeft list.rows d.removed d.put bare → points ≡ outputs_without d.spent list.outputs → IsAscending list.rows → IsAscending d.put → IsProper height (next_list list d) → MayGoOn height d.put bare d.added points
may_go_on height list d bare points left is ascending up proper =
    let next : rows_with d.put bare ≡ next_rows d.removed d.put list.rows = next_are left ascending in
    record {
      may = may_put_all height d.put bare (left_ascends left ascending) up (absent_left left) (subst HasDistinctKeys (sym next) proper.keys) (subst (HasPenaltiesTo height) (sym next) proper.penalties);
      masternodes = subst (λ (l : List MnRow). length l ≤ MOST_MASTERNODES) (sym next) proper.masternodes;
      collaterals = subst (λ (l : Outputs). length (outputs_with d.added l) ≤ MOST_OUTPUTS) (sym is) proper.collaterals;
    }
