use Rattle.dmn_registry.proofs.Beginning.{known_true}
use Rattle.dmn_registry.proofs.Once.{recovers}
use Rattle.dmn_registry.proofs.registry.Registry.open.Goals as goal

pub returns-clause-recovers : goal.returns-clause-recovers
returns-clause-recovers g c = λ m known. recovers c.open_any.result m _ _ c.open_any.ensures.reads known (c.open_any.ensures.opens (known_true m _ known))
