use Rattle.std.proofs.Common.{[], sym, ◌∙◌}
use Rattle.std.proofs.lemmas.List.{append-nil}
use Rattle.dmn_tx.specs.Tx.{tx}
use Rattle.dmn_tx.proofs.read.one_text.Goals as goal

pub returns-clause-prefix : goal.returns-clause-prefix
returns-clause-prefix c = λ a b rest fits_a fits_b e. c.one_text.ensures a b rest [] fits_a fits_b (sym e ∙ sym (append-nil (tx.text b)))
