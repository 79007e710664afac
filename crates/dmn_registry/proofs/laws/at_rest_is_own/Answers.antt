use Rattle.dmn_registry.proofs.Resting.{rests_images}
use Rattle.dmn_registry.proofs.laws.at_rest_is_own.Goals as goal

pub returns : goal.returns
returns c = rests_images
