use Rattle.std.proofs.Common.{◌∙◌}
use Rattle.dmn_desk.proofs.Rowing.{row_fits, row_framed}
use Rattle.dmn_desk.proofs.row.put_row.Goals as goal

pub returns-in_err-extend-clause-fits : goal.returns-in_err-extend-clause-fits
returns-in_err-extend-clause-fits c = row_fits c.args.row.now.penalty_at c.args.row.now c.field_lengths.ensures

pub returns-in-Err-clause-fits : goal.returns-in-Err-clause-fits
returns-in-Err-clause-fits c = row_fits c.args.row.now.penalty_at c.args.row.now c.field_lengths.ensures

pub returns-in-Ok-clause-ok : goal.returns-in-Ok-clause-ok
returns-in-Ok-clause-ok c =
    row_framed c.args.row.now.penalty_at c.args.row.now c.args.out.now c.as_slice.result.now c.extend.new.self c.row_text.new.out c.field_lengths.ensures
    (c.as_slice.ensures ∙ c.head.ensures.text) c.in_ok-extend.ensures.ok c.in-Ok.ensures.ok
