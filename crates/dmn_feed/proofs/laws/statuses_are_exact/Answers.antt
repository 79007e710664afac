use Rattle.dmn_feed.proofs.Ending.{statuses_are_exact as law}
use Rattle.dmn_feed.proofs.laws.statuses_are_exact.Goals as goal

pub returns : goal.returns
returns c = law
