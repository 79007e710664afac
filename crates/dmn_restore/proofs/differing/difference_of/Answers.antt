use Rattle.std.proofs.Common.{◌≡◌, ap, ◌∙◌, sym, subst}
use Rattle.std.specs.List.{All}
use Rattle.dmn_bytes.specs.Format.{hash}
use Rattle.dmn_bytes.specs.Points.{out_point}
use Rattle.dmn_held.specs.Row.{stored_row}
use Rattle.dmn_indexes.specs.Version.{outputs_of, values}
use Rattle.dmn_rows.specs.declared.start.StartOutput.{StartOutput}
use Rattle.dmn_restore.specs.Formed.{HasFormedPay, HasFormedPays}
use Rattle.dmn_restore.proofs.Forming.{in_form}
use Rattle.dmn_restore.proofs.Walked.{added_is, outputs_lead, put_is, removed_found, removed_is, rows_lead, spent_found, spent_is}
use Rattle.dmn_restore.proofs.differing.difference_of.Goals as goal

pub returns-clause-rows : goal.returns-clause-rows
returns-clause-rows c =
    rows_lead c.args.indexes.now c.args.old.now c.args.new.now c.requires.old c.requires.new c.in_ok-rows.rows.gone c.from_vec.result c.in_ok-rows.ensures.gone
    (c.from_vec.ensures ∙ c.in_ok-put.ensures ∙ ap values (c.as_slice.ensures ∙ c.in_ok-rows.ensures.put))

pub returns-clause-outputs : goal.returns-clause-outputs
returns-clause-outputs c =
    outputs_lead c.args.indexes.now c.args.old.now c.args.new.now c.requires.old c.requires.new c.in_ok-outputs.outputs.gone c.from_vec-2.result c.in_ok-outputs.ensures.gone
    (c.from_vec-2.ensures ∙ c.in_ok-added.ensures ∙ ap outputs_of (c.as_slice-2.ensures ∙ c.in_ok-outputs.ensures.put))

pub returns-clause-removed : goal.returns-clause-removed
returns-clause-removed c = removed_found c.args.indexes.now c.args.old.now c.args.new.now c.requires.old c.requires.new c.in_ok-rows.rows.gone c.in_ok-rows.ensures.gone

pub returns-clause-spent : goal.returns-clause-spent
returns-clause-spent c = spent_found c.args.indexes.now c.args.old.now c.args.new.now c.requires.old c.requires.new c.in_ok-outputs.outputs.gone c.in_ok-outputs.ensures.gone

pub returns-clause-form : goal.returns-clause-form
returns-clause-form c = λ formed then.
    let ix = c.args.indexes.now in
    let old = c.args.old.now in
    let new = c.args.new.now in
    let put = c.from_vec.ensures ∙ c.in_ok-put.ensures ∙ ap values (c.as_slice.ensures ∙ c.in_ok-rows.ensures.put) ∙ put_is ix old new c.requires.old c.requires.new in
    let added = c.from_vec-2.ensures ∙ c.in_ok-added.ensures ∙ ap outputs_of (c.as_slice-2.ensures ∙ c.in_ok-outputs.ensures.put) ∙ added_is ix old new c.requires.old c.requires.new in
    let checked : c.as_slice-3.result.now ≡ c.from_vec.result = c.as_slice-3.ensures.value ∙ sym c.from_vec.ensures in
    let rows : c.as_slice-5.result.now ≡ c.from_vec.result = c.as_slice-5.ensures.value ∙ sym c.from_vec.ensures in
    let checked_too : c.as_slice-4.result.now ≡ c.from_vec-2.result = c.as_slice-4.ensures.value ∙ sym c.from_vec-2.ensures in
    let outputs : c.as_slice-6.result.now ≡ c.from_vec-2.result = c.as_slice-6.ensures.value ∙ sym c.from_vec-2.ensures in
    in_form ix old new c.requires.old c.requires.new formed then (record { put = c.from_vec.result; removed = c.in_ok-rows.rows.gone; added = c.from_vec-2.result; spent = c.in_ok-outputs.outputs.gone })
    put
    (c.in_ok-rows.ensures.gone ∙ removed_is ix old new c.requires.old c.requires.new)
    added
    (c.in_ok-outputs.ensures.gone ∙ spent_is ix old new c.requires.old c.requires.new)
    (subst (All stored_row.Fits) rows (c.rows_fit.ensures (subst (All HasFormedPays) (checked ∙ sym rows) c.in_ok-check_pays.ensures.rows)))
    (subst (All hash.Fits) c.as_slice-7.ensures c.hashes_fit.ensures)
    (subst (All (λ (o : StartOutput). out_point.Fits o.point)) outputs c.outputs_fit.ensures)
    (subst (All out_point.Fits) c.as_slice-8.ensures c.points_fit.ensures)
    (subst (All HasFormedPay) checked_too c.in_ok-check_pays.ensures.outputs)
