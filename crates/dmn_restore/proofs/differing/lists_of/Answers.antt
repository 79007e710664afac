use Rattle.std.proofs.Common.{◌≡◌, ◌≤◌, List, length, refl, ap, ◌∙◌, sym, subst}
use Rattle.std.specs.List.{All}
use Rattle.dmn_bytes.specs.contracts.points.PayPartialEq.TheImpl as pays
use Rattle.dmn_bytes.specs.Points.{hash_cmp, out_point, point_cmp}
use Rattle.dmn_held.specs.Row.{stored_row}
use Rattle.dmn_indexes.specs.Version.{outputs_in, outputs_of, rows_in, values}
use Rattle.dmn_rows.specs.declared.limits.TheConstants.{MOST_MASTERNODES, MOST_OUTPUTS}
use Rattle.dmn_rows.specs.declared.row.MnRow.{MnRow}
use Rattle.dmn_rows.specs.declared.start.StartOutput.{StartOutput}
use Rattle.dmn_rows.specs.Listing.{IsAscending, OutputsAscend}
use Rattle.dmn_rows.specs.Rows.{Outputs}
use Rattle.dmn_versions.proofs.Versions.{sound_empty}
use Rattle.dmn_restore.specs.Formed.{HasFormedPay, HasFormedPays}
use Rattle.dmn_restore.proofs.Forming.{outputs_form, rows_form}
use Rattle.dmn_restore.proofs.Rising.{version_outputs, version_rows}
use Rattle.dmn_restore.proofs.Walked.{same_row, whole_pairs}
use Rattle.dmn_restore.proofs.differing.lists_of.Goals as goal

pub changes-requires-clause-old_sound : goal.changes-requires-clause-old_sound
changes-requires-clause-old_sound c = sound_empty hash_cmp c.args.indexes.now.rows.nodes.items 0 refl

pub changes-requires-2-clause-old_sound : goal.changes-requires-2-clause-old_sound
changes-requires-2-clause-old_sound c = sound_empty point_cmp c.args.indexes.now.outputs.nodes.items 0 refl

pub returns-clause-rows : goal.returns-clause-rows
returns-clause-rows c =
    c.from_vec.ensures ∙ c.in_ok-rows-2.ensures ∙ ap values (c.as_slice.ensures ∙ c.in_ok-rows.ensures.put ∙ whole_pairs hash_cmp same_row c.args.indexes.now.rows c.args.version.now.rows)

pub returns-clause-outputs : goal.returns-clause-outputs
returns-clause-outputs c =
    c.from_vec-2.ensures ∙ c.in_ok-outputs-2.ensures ∙ ap outputs_of (c.as_slice-2.ensures ∙ c.in_ok-outputs.ensures.put ∙ whole_pairs point_cmp (pays.ghosts).eq c.args.indexes.now.outputs c.args.version.now.outputs)

pub returns-clause-rows_form : goal.returns-clause-rows_form
returns-clause-rows_form c = λ formed.
    let ix = c.args.indexes.now in
    let v = c.args.version.now in
    let whole : c.from_vec.result ≡ rows_in ix v = c.from_vec.ensures ∙ c.in_ok-rows-2.ensures ∙ ap values (c.as_slice.ensures ∙ c.in_ok-rows.ensures.put ∙ whole_pairs hash_cmp same_row ix.rows v.rows) in
    let checked : c.as_slice-3.result.now ≡ c.from_vec.result = c.as_slice-3.ensures.value ∙ sym c.from_vec.ensures in
    let rows : c.as_slice-5.result.now ≡ c.from_vec.result = c.as_slice-5.ensures.value ∙ sym c.from_vec.ensures in
    rows_form c.from_vec.result (subst (λ (l : List MnRow). length l ≤ MOST_MASTERNODES) (sym whole) formed.masternodes) (subst IsAscending (sym whole) (version_rows ix v c.requires))
    (subst (All stored_row.Fits) rows (c.rows_fit.ensures (subst (All HasFormedPays) (checked ∙ sym rows) c.in_ok-check_pays.ensures.rows)))

pub returns-clause-outputs_form : goal.returns-clause-outputs_form
returns-clause-outputs_form c = λ formed.
    let ix = c.args.indexes.now in
    let v = c.args.version.now in
    let whole : c.from_vec-2.result ≡ outputs_in ix v = c.from_vec-2.ensures ∙ c.in_ok-outputs-2.ensures ∙ ap outputs_of (c.as_slice-2.ensures ∙ c.in_ok-outputs.ensures.put ∙ whole_pairs point_cmp (pays.ghosts).eq ix.outputs v.outputs) in
    let checked : c.as_slice-4.result.now ≡ c.from_vec-2.result = c.as_slice-4.ensures.value ∙ sym c.from_vec-2.ensures in
    let outputs : c.as_slice-6.result.now ≡ c.from_vec-2.result = c.as_slice-6.ensures.value ∙ sym c.from_vec-2.ensures in
    outputs_form c.from_vec-2.result (subst (λ (l : Outputs). length l ≤ MOST_OUTPUTS) (sym whole) formed.collaterals) (subst OutputsAscend (sym whole) (version_outputs ix v c.requires))
    (subst (All (λ (o : StartOutput). out_point.Fits o.point)) outputs c.outputs_fit.ensures)
    (subst (All HasFormedPay) checked c.in_ok-check_pays.ensures.outputs)
