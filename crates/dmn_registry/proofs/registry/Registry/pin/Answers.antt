use Rattle.std.proofs.Common.{refl}
use Rattle.dmn_registry.specs.Machine.{state_of}
use Rattle.dmn_registry.proofs.Pinning.{pinned_on, unpinned_on}
use Rattle.dmn_registry.proofs.registry.Registry.pin.Goals as goal

pub returns-clause-pinned : goal.returns-clause-pinned
returns-clause-pinned c = λ m told stands. pinned_on c.pin.result c.args.self.now _ m c.args.height told (record { spent = refl; journal = refl; newest = refl }) stands (c.pin.ensures.pinned (state_of m) stands.registry_stands.branch)

pub returns-clause-same : goal.returns-clause-same
returns-clause-same c = λ m told stands. unpinned_on c.pin.result c.args.self.now _ m told (record { spent = refl; journal = refl; newest = refl }) stands (c.pin.ensures.same (state_of m) stands.registry_stands.branch)
