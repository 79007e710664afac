use Rattle.dmn_http.proofs.Exchanging.{exchanged_head, exchanged_limit}
use Rattle.dmn_http.proofs.exchange.read_whole.Goals as goal

pub returns-in-Whole-clause-reads : goal.returns-in-Whole-clause-reads
returns-in-Whole-clause-reads g c = λ tells. exchanged_head c.read_behind.result c.in_ok-taken.taken c.in-Whole.size c.read_head.new.buffer _ _ _ c.in-Whole.is c.in_ok-taken.ensures.within.1 (c.in_ok-taken.ensures.takes tells) (c.read_behind.ensures.reads tells)

pub returns-in-TooLong-clause-reads : goal.returns-in-TooLong-clause-reads
returns-in-TooLong-clause-reads g c = λ tells. exchanged_limit c.refuse.result c.in_ok-taken.taken c.read_head.new.buffer _ _ c.in-TooLong.is (c.in_ok-taken.ensures.takes tells) c.refuse.ensures
