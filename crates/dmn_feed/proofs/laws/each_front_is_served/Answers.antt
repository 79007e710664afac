use Rattle.dmn_feed.proofs.Fronts.{each_front_is_served as law}
use Rattle.dmn_feed.proofs.laws.each_front_is_served.Goals as goal

pub returns : goal.returns
returns c = law
