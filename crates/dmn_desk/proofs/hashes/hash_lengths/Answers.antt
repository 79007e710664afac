use Rattle.dmn_desk.proofs.Hashing.{hashes_more}
use Rattle.dmn_desk.proofs.hashes.hash_lengths.Goals as goal

pub loop-hash-preserved : goal.loop-hash-preserved
loop-hash-preserved c = hashes_more c.args.hashes.now c.loop-hash.hash-index _ c.loop-hash-test.true c.hash_length.ensures c.loop-hash.invariant
