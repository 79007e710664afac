use Rattle.std.proofs.Common.{refl}
use Rattle.dmn_registry.specs.Machine.{state_of}
use Rattle.dmn_registry.proofs.Pinning.{released_on}
use Rattle.dmn_registry.proofs.registry.Registry.release.Goals as goal

pub returns-clause-released : goal.returns-clause-released
returns-clause-released c = λ m told stands. released_on c.release.result c.args.self.now _ m c.args.pin told (record { spent = refl; journal = refl; newest = refl }) stands (c.release.ensures.stands (state_of m) stands.registry_stands.branch)
