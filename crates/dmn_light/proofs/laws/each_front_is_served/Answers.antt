use Rattle.dmn_light.proofs.Fronts.{each_front_is_served}
use Rattle.dmn_light.proofs.laws.each_front_is_served.Goals as goal

pub returns : goal.returns
returns c = each_front_is_served
