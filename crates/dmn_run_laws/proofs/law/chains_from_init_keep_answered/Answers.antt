use Rattle.dmn_run_laws.proofs.Chains.{from_init as law}
use Rattle.dmn_run_laws.proofs.law.chains_from_init_keep_answered.Goals as goal

pub returns : goal.returns
returns c = law
