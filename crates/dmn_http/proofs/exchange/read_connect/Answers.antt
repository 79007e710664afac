use Rattle.dmn_http.proofs.Exchanging.{asked_whole, asked_lacking}
use Rattle.dmn_http.proofs.exchange.read_connect.Goals as goal

pub returns-in-Whole-clause-asks : goal.returns-in-Whole-clause-asks
returns-in-Whole-clause-asks g c = λ tells.
    let a = rw c.in-Whole.is at (c.in_ok-body.ensures.takes tells) in
    asked_whole c.asked_by.result c.in-Whole.body c.args.front.now c.args.size _ _ a.0 a.1 c.asked_by.ensures.shows

pub returns-in-Lacking-clause-asks : goal.returns-in-Lacking-clause-asks
returns-in-Lacking-clause-asks g c = λ tells.
    let a = rw c.in-Lacking.is at (c.in_ok-body.ensures.takes tells) in
    asked_lacking c.memory_reply.result c.args.front.now c.args.size _ _ a c.memory_reply.ensures
