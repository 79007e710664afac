use Rattle.dmn_light.proofs.Endings.{endings_are_exact}
use Rattle.dmn_light.proofs.run.client.Goals as goal

pub returns-clause-exact : goal.returns-clause-exact
returns-clause-exact g c = λ tells frames left cut. endings_are_exact _ _ _ frames left (c.serve.ensures.outcome tells) cut

pub returns-clause-complete : goal.returns-clause-complete
returns-clause-complete g c = λ tells calm frames left cut. endings_are_exact _ _ _ frames left (c.serve.ensures.outcome tells) cut (λ e. calm (c.serve.ensures.fault e))

pub returns-clause-sure : goal.returns-clause-sure
returns-clause-sure g c = λ tells told enough.
    let never = c.serve.ensures.sure tells told enough in
    record {
      ending_is = λ frames left cut. endings_are_exact _ _ _ frames left (c.serve.ensures.outcome tells) cut never.runs;
      faults = never.faults;
      callers = c.serve.ensures.later.callers;
    }
