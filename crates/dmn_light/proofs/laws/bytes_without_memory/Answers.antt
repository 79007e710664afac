use Rattle.dmn_light.proofs.Memoryless.{bytes_without_memory}
use Rattle.dmn_light.proofs.laws.bytes_without_memory.Goals as goal

pub returns : goal.returns
returns c = bytes_without_memory
