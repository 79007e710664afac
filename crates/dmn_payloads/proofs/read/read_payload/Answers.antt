use Rattle.std.proofs.Common.{ap, ◌∙◌}
use Rattle.dmn_bytes.specs.Format.{whole}
use Rattle.dmn_bytes.specs.Sound.{whole_again}
use Rattle.dmn_payloads.proofs.read.read_payload.Goals as goal

pub returns-in-Ok-clause-answers : goal.returns-in-Ok-clause-answers
returns-in-Ok-clause-answers g c =
    let f = g.T.Text.format in
    rw (← c.in_default.ensures) (ap (whole f) c.in-Ok.ensures.found.1 ∙ whole_again f g.met.T.Text.sound c.in-Ok.value c.in-Ok.ensures.found.0)
