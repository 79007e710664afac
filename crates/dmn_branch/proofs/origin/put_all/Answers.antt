use Rattle.std.proofs.Common.{ap, ◌∙◌, [], get_or}
use Rattle.dmn_rows.specs.declared.start.StartOutput.{StartOutput}
use Rattle.dmn_rows.specs.Rows.{Outputs, put_output}
use Rattle.dmn_branch.proofs.Putting.{put_next}
use Rattle.dmn_branch.proofs.origin.put_all.Goals as goal

pub loop-place-preserved : goal.loop-place-preserved
loop-place-preserved c =
    let d : StartOutput = record { point = record { hash = record { 0 = [] }; index = 0 }; pay = record { kind = 0; hash = [] } } in
    let o : StartOutput = get_or c.args.outputs.now c.loop-place.place d in
    record {
      rows = c.in_ok-put_one.ensures.rows ∙ c.loop-place.invariant.rows;
      outputs = c.in_ok-put_one.ensures.outputs ∙ ap (λ (l : Outputs). put_output o.point o.pay l) c.loop-place.invariant.outputs ∙ put_next c.args.outputs.now c.loop-place.place d c.requires.ascending c.loop-place-test.true;
    }
