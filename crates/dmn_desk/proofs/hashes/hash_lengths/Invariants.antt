use Rattle.std.proofs.Common.{◌≡◌, ◌*◌, length, take}
use Rattle.std.specs.List.{flat_map}
use Rattle.dmn_bytes.specs.Format.{hash}
use Rattle.dmn_desk.proofs.hashes.hash_lengths.Given as goal

abbrev pub invariant-loop-hash : goal.invariant-loop-hash
invariant-loop-hash l = length (flat_map hash.text (take l.hash-index l.hashes)) ≡ 32 * l.hash-index
