use Rattle.dmn_registry.proofs.Nearing.{tail_most}
use Rattle.dmn_registry.proofs.registry.Registry.tail.Goals as goal

pub returns-clause-most : goal.returns-clause-most
returns-clause-most c = λ m told stands. tail_most c.args.self.now m told c.tail.result stands c.tail.ensures
