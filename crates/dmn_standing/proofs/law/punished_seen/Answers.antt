use Rattle.dmn_standing.proofs.Seen.{punished_found, punished_none}
use Rattle.dmn_standing.proofs.law.punished_seen.Goals as goal

pub returns-clause-found : goal.returns-clause-found
returns-clause-found c = punished_found

pub returns-clause-none : goal.returns-clause-none
returns-clause-none c = punished_none
