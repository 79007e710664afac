use Rattle.std.proofs.lemmas.Result.{err_from_is_err_and}
use Rattle.dmn_make.proofs.Asked.{idle_fails}
use Rattle.dmn_make.proofs.blocks.add_with.Goals as goal

pub returns-in_err-body-clause-does : goal.returns-in_err-body-clause-does
returns-in_err-body-clause-does g c = λ tells.
    let p = err_from_is_err_and c.from_residual.result c.from_residual.ensures.1 in
    rw (p.1, p.2) (λ m stands. idle_fails _ _ _ m _ (g.D.Device.past_is_over c.args.disk.now) stands)
