use Rattle.dmn_branch.proofs.Blocks.{has_coinbase}
use Rattle.dmn_branch.proofs.law.blocks_have_coinbases.Goals as goal

pub returns : goal.returns
returns c = has_coinbase
