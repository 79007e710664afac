-- The list of the lowest height, put into an empty one.
use Rattle.std.proofs.Common.{◌≡◌, ◌≤◌, List, [], ◌∷◌, length, refl, sym, ap, ◌∙◌, subst}
use Rattle.dmn_bytes.specs.Points.{hash_cmp, point_cmp}
use Rattle.dmn_held.specs.Defs.{IsHeld}
use Rattle.dmn_held.specs.declared.data.SnapshotData.{SnapshotData}
use Rattle.dmn_indexes.specs.Working.{Worked, listing}
use Rattle.dmn_rows.specs.declared.limits.TheConstants.{MOST_MASTERNODES, MOST_OUTPUTS}
use Rattle.dmn_rows.specs.declared.row.MnRow.{MnRow}
use Rattle.dmn_rows.specs.Distinct.{HasDistinctKeys}
use Rattle.dmn_rows.specs.Keys.{output_key, row_key}
use Rattle.dmn_rows.specs.Listing.{IsAscending}
use Rattle.dmn_rows.specs.Rows.{Outputs, has_hash, has_point}
use Rattle.dmn_rows.specs.Start.{point_of}
use Rattle.dmn_restore.specs.Lists.{hash_of, lowest_list, outputs_with, rows_with}
use Rattle.dmn_restore.specs.Proper.{HasPenaltiesTo, IsProper}
use Rattle.dmn_restore.proofs.Free.{RowsAbsent, may_put_all}
use Rattle.dmn_restore.proofs.Going.{MayGoOn}
use Rattle.dmn_restore.proofs.Keyed.{put_whole}
use Rattle.dmn_restore.proofs.Ordered.{held_outputs, held_rows}

pub record IsEmpty (list : Worked) : Type 0 where
  pub rows : list.rows ≡ []
  pub outputs : list.outputs ≡ []

none_there : (rows : List MnRow) → RowsAbsent [] rows
none_there [] = tt
none_there (row ∷ rows) = (refl, none_there rows)

rows_are : (held : SnapshotData) (list : Worked) → IsEmpty list → IsHeld held → rows_with held.rows list.rows ≡ held.rows
rows_are held list empty form = ap (rows_with held.rows) empty.rows ∙ put_whole hash_cmp hash_of has_hash row_key held.rows (held_rows held form)

outputs_are : (held : SnapshotData) (list : Worked) → IsEmpty list → IsHeld held → outputs_with held.outputs list.outputs ≡ held.outputs
outputs_are held list empty form = ap (outputs_with held.outputs) empty.outputs ∙ put_whole point_cmp point_of has_point output_key held.outputs (held_outputs held form)

pub lowest_is : (held : SnapshotData) (list next : Worked) → IsEmpty list → IsHeld held → next.rows ≡ rows_with held.rows list.rows → next.outputs ≡ outputs_with held.outputs list.outputs → listing next ≡ lowest_list held
lowest_is held list next empty form rows outputs =
    ap (λ (l : List MnRow). record { rows = l; outputs = next.outputs }) (rows ∙ rows_are held list empty form)
    ∙ ap (λ (l : Outputs). record { rows = held.rows; outputs = l }) (outputs ∙ outputs_are held list empty form)

pub lowest_may : (held : SnapshotData) (list : Worked) → IsEmpty list → IsHeld held → IsProper held.low (lowest_list held) → MayGoOn held.low held.rows list.rows held.outputs list.outputs
lowest_may held list empty form proper =
    let rows : rows_with held.rows list.rows ≡ held.rows = rows_are held list empty form in
    let points : outputs_with held.outputs list.outputs ≡ held.outputs = outputs_are held list empty form in
    record {
      may = may_put_all held.low held.rows list.rows (subst IsAscending (sym empty.rows) tt) (held_rows held form) (subst (λ (l : List MnRow). RowsAbsent l held.rows) (sym empty.rows) (none_there held.rows)) (subst HasDistinctKeys (sym rows) proper.keys) (subst (HasPenaltiesTo held.low) (sym rows) proper.penalties);
      masternodes = subst (λ (l : List MnRow). length l ≤ MOST_MASTERNODES) (sym rows) proper.masternodes;
      collaterals = subst (λ (l : Outputs). length l ≤ MOST_OUTPUTS) (sym points) proper.collaterals;
    }
