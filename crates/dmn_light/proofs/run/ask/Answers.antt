use Rattle.std.proofs.Common.{arith, ◌∙◌, inr, refl}
use Rattle.std.proofs.lemmas.List.{length-take}
use Rattle.dmn_light.proofs.Turning.{kept_serves}
use Rattle.dmn_light.proofs.run.ask.Goals as goal

pub returns-in-Lacking-clause-asks : goal.returns-in-Lacking-clause-asks
returns-in-Lacking-clause-asks g c = λ tells. record {
  took = rw c.in-Lacking.is at (c.in_ok-read_body.ensures.bodies tells);
  may = inr (refl, refl);
}

pub returns-in-Kept-clause-asks : goal.returns-in-Kept-clause-asks
returns-in-Kept-clause-asks g c = λ tells.
    let taken = rw c.in-Kept.is at (c.in_ok-read_body.ensures.bodies tells) in
    record {
      took = taken.0;
      may = kept_serves _ _ c.reading-reading.result c.args.kind c.args.size _ c.as_slice.result.now c.answer.result c.reading-reading.ensures (omega (arith, taken.0.enough, length-take c.args.size (g.L.Device.line c.args.line.now).talk.left)) (c.as_slice.ensures ∙ taken.1) c.answer.ensures.answers;
    }
