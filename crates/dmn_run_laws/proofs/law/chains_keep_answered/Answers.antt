use Rattle.dmn_run_laws.proofs.Chains.{chains_keep_answered as law}
use Rattle.dmn_run_laws.proofs.law.chains_keep_answered.Goals as goal

pub returns : goal.returns
returns c = law
