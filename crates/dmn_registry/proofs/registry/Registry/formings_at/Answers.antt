use Rattle.std.proofs.Common.{refl}
use Rattle.dmn_registry.proofs.Pinning.{stands_apart}
use Rattle.dmn_registry.proofs.registry.Registry.formings_at.Goals as goal

pub returns-clause-same : goal.returns-clause-same
returns-clause-same c = λ m told stands. stands_apart _ _ m m.pins told (record { spent = refl; journal = refl; newest = refl }) stands (c.formings_at.ensures.same _ stands.registry_stands.branch)
