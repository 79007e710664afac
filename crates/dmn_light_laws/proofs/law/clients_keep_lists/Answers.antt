use Rattle.dmn_light_laws.proofs.Sound.{keeps_first, keeps_next}
use Rattle.dmn_light_laws.proofs.law.clients_keep_lists.Goals as goal

pub returns-clause-first : goal.returns-clause-first
returns-clause-first c = keeps_first

pub returns-clause-next : goal.returns-clause-next
returns-clause-next c = keeps_next
