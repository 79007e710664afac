use Rattle.dmn_light.proofs.Endings.{endings_are_exact}
use Rattle.dmn_light.proofs.laws.endings_are_exact.Goals as goal

pub returns : goal.returns
returns c = endings_are_exact
