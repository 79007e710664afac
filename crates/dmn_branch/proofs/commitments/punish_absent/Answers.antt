use Rattle.std.proofs.Common.{refl, ◌∙◌}
use Rattle.dmn_indexes.proofs.Counting.{leads_then}
use Rattle.dmn_branch.specs.Parts.{punished_at}
use Rattle.dmn_branch.proofs.Punishing.{absent_next}
use Rattle.dmn_branch.proofs.commitments.punish_absent.Goals as goal

pub loop-place-preserved : goal.loop-place-preserved
loop-place-preserved c =
    let height = c.args.height in
    record {
      rest =
          absent_next height c.args.bits.now c.args.members.now c.loop-place.place _ _ c.bit_at.result (punished_at height c.loop-place.list) (punished_at height c.punish_unless.new.list) c.loop-place-test.true refl c.bit_at.ensures c.in_ok-punish_unless.ensures.rows
          ∙ c.loop-place.invariant.rest;
      outputs = c.in_ok-punish_unless.ensures.outputs ∙ c.loop-place.invariant.outputs;
      working = c.in_ok-punish_unless.ensures.working;
      leads = leads_then c.loop-place.invariant.leads c.punish_unless.ensures.leads;
    }
