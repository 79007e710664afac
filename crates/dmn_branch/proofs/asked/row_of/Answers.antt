use Rattle.std.proofs.Common.{◌∙◌}
use Rattle.dmn_indexes.proofs.Whole.{row_found}
use Rattle.dmn_branch.proofs.asked.row_of.Goals as goal

pub returns : goal.returns
returns c = c.get.ensures ∙ row_found c.args.hash.now c.requires
