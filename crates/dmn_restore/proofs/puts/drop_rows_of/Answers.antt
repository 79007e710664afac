use Rattle.std.proofs.Common.{◌∙◌, ◌+◌, List, sym, ap, drop, map}
use Rattle.dmn_indexes.proofs.Whole.{keeps_then}
use Rattle.dmn_rows.specs.declared.row.MnRow.{MnRow}
use Rattle.dmn_restore.specs.Lists.{hash_of, rows_without}
use Rattle.dmn_restore.proofs.Steps.{cons_at, no_row}
use Rattle.dmn_restore.proofs.puts.drop_rows_of.Goals as goal

pub loop-place-preserved : goal.loop-place-preserved
loop-place-preserved c =
    let rows = c.args.rows.now in
    let i = c.loop-place.place in
    record {
      rows =
          ap (rows_without (map hash_of (drop (i + 1) rows))) c.in_ok-drop_row.ensures.rows
          ∙ ap (λ (l : List MnRow). rows_without (map hash_of l) c.loop-place.list.rows) (sym (cons_at rows i no_row c.loop-place-test.true))
          ∙ c.loop-place.invariant.rows;
      outputs = c.in_ok-drop_row.ensures.outputs ∙ c.loop-place.invariant.outputs;
      keeps = keeps_then c.loop-place.invariant.keeps c.drop_row.ensures.leads.keeps;
    }
