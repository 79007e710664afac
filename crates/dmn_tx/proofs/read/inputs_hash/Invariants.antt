use Rattle.std.proofs.Common.{take}
use Rattle.std.specs.List.{flat_map}
use Rattle.sha2.specs.Hashers.{Holds256}
use Rattle.dmn_bytes.specs.Points.{out_point}
use Rattle.dmn_tx.proofs.read.inputs_hash.Given as goal

abbrev pub invariant-loop-input : goal.invariant-loop-input
invariant-loop-input l = Holds256 l.hasher (flat_map (λ input. out_point.text input.point) (take l.input-index l.tx.inputs))
