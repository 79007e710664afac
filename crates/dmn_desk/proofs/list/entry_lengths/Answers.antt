use Rattle.dmn_desk.proofs.Listing.{length_more}
use Rattle.dmn_desk.proofs.list.entry_lengths.Goals as goal

pub loop-entry-preserved : goal.loop-entry-preserved
loop-entry-preserved c = length_more c.args.entries.now c.loop-entry.entry-index _ c.loop-entry-test.true c.field_lengths.ensures c.loop-entry.invariant
