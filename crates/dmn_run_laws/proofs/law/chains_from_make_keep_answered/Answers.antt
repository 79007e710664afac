use Rattle.dmn_run_laws.proofs.Chains.{from_make as law}
use Rattle.dmn_run_laws.proofs.law.chains_from_make_keep_answered.Goals as goal

pub returns : goal.returns
returns c = law
