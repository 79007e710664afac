use Rattle.std.proofs.lemmas.List.Elements.{All-more, All-nil}
use Rattle.dmn_bytes.specs.Format.{hash}
use Rattle.dmn_restore.proofs.Steps.{all_taken, no_hash}
use Rattle.dmn_restore.proofs.fields.hashes_fit.Goals as goal

pub loop-place-init : goal.loop-place-init
loop-place-init c = All-nil hash.Fits

pub loop-place-preserved : goal.loop-place-preserved
loop-place-preserved c = All-more hash.Fits c.args.hashes.now c.loop-place.place no_hash c.loop-place-test.true c.loop-place.invariant c.hash_fits.ensures

pub returns : goal.returns
returns c = all_taken hash.Fits c.args.hashes.now c.loop-place.place c.loop-place-test.false c.loop-place.invariant
