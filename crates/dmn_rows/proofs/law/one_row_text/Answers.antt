use Rattle.dmn_bytes.specs.Sound.{text_is_one}
use Rattle.dmn_rows.specs.RowText.{row, row_sound}
use Rattle.dmn_rows.proofs.law.one_row_text.Goals as goal

pub returns : goal.returns
returns c = λ a b x y fa fb e. text_is_one row row_sound a b x y fa fb e
