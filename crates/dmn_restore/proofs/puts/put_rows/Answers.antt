use Rattle.std.proofs.Common.{◌∙◌, ◌+◌, sym, subst, drop}
use Rattle.std.proofs.lemmas.Result.{err_from_is_err_and}
use Rattle.dmn_bytes.specs.Points.{hash_cmp}
use Rattle.dmn_indexes.proofs.Whole.{keeps_then}
use Rattle.dmn_restore.specs.Lists.{hash_of}
use Rattle.dmn_restore.specs.Puts.{MayPutAll}
use Rattle.dmn_restore.proofs.Steps.{may_step, no_row, put_step}
use Rattle.dmn_restore.proofs.puts.put_rows.Goals as goal

pub loop-place-preserved : goal.loop-place-preserved
loop-place-preserved c = record {
  rows = put_step hash_cmp hash_of c.args.rows.now c.loop-place.place no_row _ _ _ c.loop-place-test.true c.in_ok-put_row.ensures.rows c.loop-place.invariant.rows;
  outputs = c.in_ok-put_row.ensures.outputs ∙ c.loop-place.invariant.outputs;
  keeps = keeps_then c.loop-place.invariant.keeps c.in_ok-put_row.ensures.keeps;
  ascending = c.in_ok-put_row.ensures.ascending;
  keys = c.in_ok-put_row.ensures.keys;
  penalties = c.in_ok-put_row.ensures.penalties;
  may = λ all. subst (MayPutAll c.args.height (drop (c.loop-place.place + 1) c.args.rows.now)) (sym c.in_ok-put_row.ensures.rows) (may_step c.args.height c.args.rows.now c.loop-place.place no_row c.loop-place.list.rows c.loop-place-test.true (c.loop-place.invariant.may all)).1;
}

pub returns-in_err-put_row-clause-misfit : goal.returns-in_err-put_row-clause-misfit
returns-in_err-put_row-clause-misfit c = λ all.
    let p = err_from_is_err_and c.from_residual.result c.from_residual.ensures.1 in
    rw (p.1, p.2) (c.in_err-put_row.ensures.misfit (may_step c.args.height c.args.rows.now c.loop-place.place no_row c.loop-place.list.rows c.loop-place-test.true (c.loop-place.invariant.may all)).0)
