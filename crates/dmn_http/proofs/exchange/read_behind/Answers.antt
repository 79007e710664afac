use Rattle.dmn_head.specs.declared.plan.Plan.TheVariants as plans
use Rattle.dmn_http.specs.declared.exchange.Exchange.TheVariants as exchanges
use Rattle.dmn_http.proofs.Exchanging.{asked_now, shows_fault}
use Rattle.dmn_http.proofs.exchange.read_behind.Goals as goal

pub returns-in-Refuse-clause-reads : goal.returns-in-Refuse-clause-reads
returns-in-Refuse-clause-reads g c = λ tells. (plans.Refuse c.in-Refuse.fault, c.in-Refuse.ensures.plans, asked_now (exchanges.Reply c.refuse.result) (plans.Refuse c.in-Refuse.fault) c.args.front.now _ (shows_fault c.in-Refuse.fault c.refuse.result c.refuse.ensures))
