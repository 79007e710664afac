use Rattle.dmn_rows.specs.RowText.{row}
use Rattle.dmn_rows.proofs.Lengths.{row_length, grown}
use Rattle.dmn_rows.proofs.texts.row_text.Goals as goal

pub returns-clause-length : goal.returns-clause-length
returns-clause-length c = grown c.append.result _ _ (row.text c.plain_at-row.result) 293 (row_length c.plain_at-row.result c.lengths.ensures) c.append.ensures.ok
