use Rattle.dmn_light_laws.proofs.Sound.{sound_behind}
use Rattle.dmn_light_laws.proofs.law.client_has_replayed_list.Goals as goal

pub returns : goal.returns
returns c = sound_behind
