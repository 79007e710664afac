use Rattle.std.proofs.Common.{◌≡◌, false, ap, ◌∙◌}
use Rattle.std.proofs.lemmas.Result.{err_from_is_err_and}
use Rattle.dmn_indexes.specs.declared.version.Version.{Version}
use Rattle.dmn_indexes.specs.Version.{empty_version}
use Rattle.dmn_indexes.specs.Working.{Worked, worked}
use Rattle.dmn_restore.proofs.Lowest.{IsEmpty, lowest_is, lowest_may}
use Rattle.dmn_restore.proofs.making.make_lowest.Goals as goal

pub returns-in_err-put_all-clause-misfit : goal.returns-in_err-put_all-clause-misfit
returns-in_err-put_all-clause-misfit c = λ held proper.
    let start : c.new-list.result ≡ worked c.new.result empty_version 0 false = c.new-list.ensures ∙ ap (λ (v : Version). worked c.new.result v 0 false) c.empty.ensures in
    let empty : IsEmpty c.new-list.result = record { rows = ap (λ (w : Worked). w.rows) start ∙ c.new.ensures.rows; outputs = ap (λ (w : Worked). w.outputs) start ∙ c.new.ensures.outputs } in
    let may = lowest_may c.args.held.now c.new-list.result empty held proper in
    let p = err_from_is_err_and c.from_residual.result c.from_residual.ensures.1 in
    rw (p.1, p.2) ((rw (c.as_slice-rows.ensures, c.as_slice.ensures) at c.in_err-put_all.ensures.misfit) may.may may.masternodes may.collaterals)

pub returns-clause-list : goal.returns-clause-list
returns-clause-list c = λ held.
    let start : c.new-list.result ≡ worked c.new.result empty_version 0 false = c.new-list.ensures ∙ ap (λ (v : Version). worked c.new.result v 0 false) c.empty.ensures in
    let empty : IsEmpty c.new-list.result = record { rows = ap (λ (w : Worked). w.rows) start ∙ c.new.ensures.rows; outputs = ap (λ (w : Worked). w.outputs) start ∙ c.new.ensures.outputs } in
    c.mark.ensures.list ∙ lowest_is c.args.held.now c.new-list.result c.put_all.new.list empty held (rw c.as_slice-rows.ensures at c.in_ok-put_all.ensures.rows) (rw c.as_slice.ensures at c.in_ok-put_all.ensures.outputs)
