use Rattle.dmn_run_laws.proofs.Fronts.{images_have_fronts as law}
use Rattle.dmn_run_laws.proofs.law.images_have_fronts.Goals as goal

pub returns : goal.returns
returns c = law
