use Rattle.dmn_light_laws.proofs.Complete.{complete_behind}
use Rattle.dmn_light_laws.proofs.law.client_takes_replayed_list.Goals as goal

pub returns : goal.returns
returns c = complete_behind
