use Rattle.std.proofs.Common.{[], sym, ◌∙◌}
use Rattle.std.proofs.lemmas.List.{append-nil}
use Rattle.dmn_block.specs.Defs.{body_of, block_text}
use Rattle.dmn_block.proofs.read.one_text.Goals as goal

pub returns-clause-prefix : goal.returns-clause-prefix
returns-clause-prefix c = λ a b m n rest fits_a fits_b e. (c.one_text.ensures (body_of a m) (body_of b n) rest [] fits_a fits_b (sym e ∙ sym (append-nil (block_text b n)))).1
