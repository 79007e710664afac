use Rattle.std.proofs.Common.{sym}
use Rattle.dmn_branch.proofs.Standing.{tells_coinbase}
use Rattle.dmn_branch.proofs.branch.Branch.coinbase_at.Goals as goal

pub returns-in-Some : goal.returns-in-Some
returns-in-Some c = λ m stands. tells_coinbase c.args.self.now m c.args.height _ _ stands c.requires.low c.held_at.ensures.coinbase (sym c.in-Some.is)

pub returns-in-None : goal.returns-in-None
returns-in-None c = λ m stands. tells_coinbase c.args.self.now m c.args.height _ _ stands c.requires.low c.held_at.ensures.coinbase (sym c.in-None.is)
